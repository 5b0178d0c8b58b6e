-- `frame::body_by` meets its contract: the digits lie within the bytes, and where the bytes end before them there are none.
use mathlib.Core.Path.{◌∙◌}
use native.Mathlib.Omega.{arith}
use Prim.Native.Nat.{◌+◌}
use lib.ListN.{length}
use Rattle.frame.proofs.Steps.{digits-end, digits-told, body-told}
use Rattle.frame.proofs.body_by.Goals as goal

pub overflow_add-begin : goal.overflow_add-begin
overflow_add-begin c = omega (arith, digits-end (length c.args.o.now + 2) c.args.s.now c.min.ensures c.run_in.ensures)

pub overflow_add-begin-2 : goal.overflow_add-begin-2
overflow_add-begin-2 c = omega (arith, digits-end (length c.args.o.now + 2) c.args.s.now c.min.ensures c.run_in.ensures)

pub overflow_add-begin-3 : goal.overflow_add-begin-3
overflow_add-begin-3 c = omega (arith, digits-end (length c.args.o.now + 2) c.args.s.now c.min.ensures c.run_in.ensures)

pub returns : goal.returns
returns c =
    let a = c.args in
    c.part.ensures ∙ body-told a.o.now a.s.now a.length (digits-told (length a.o.now + 2) a.s.now c.min.ensures c.run_in.ensures) c.saturating_sub.ensures
