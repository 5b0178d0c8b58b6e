-- `octet::run_far` meets its contract: where many are of the run it goes on after them.
use mathlib.Core.Path.{◌≡◌, sym, ap, ◌∙◌}
use mathlib.Core.Bool.{true}
use native.Mathlib.Omega.{arith}
use lib.ListN.{take}
use Rattle.octet.specs.Bytes.{run_in, all_in}
use Rattle.octet.proofs.Lists.{run-most, run-from, run-reach}
use Rattle.octet.proofs.run_far.Goals as goal

pub returns : goal.returns
returns c =
    let a = c.args in
    let s = a.s.now in
    let cut = c.in-Some.ensures.cases in
    let e : all_in a.low a.high (take 16 s) ≡ true = ap (all_in a.low a.high) (sym cut.0) ∙ sym c.many_in.ensures ∙ c.if-many_in.true in
    omega (arith, c.run_in.ensures, ap (run_in a.low a.high) cut.1, run-from a.low a.high 16 s (run-reach a.low a.high 16 s (omega (arith, cut.2)) e))

pub overflow_add-result : goal.overflow_add-result
overflow_add-result c =
    let a = c.args in
    omega (arith, c.in-Some.ensures.cases.2, c.run_in.ensures, run-most a.low a.high c.in-Some.after.now)
