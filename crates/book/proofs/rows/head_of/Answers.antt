use Prim.Native.Nat.{◌-◌}
use Rattle.book.proofs.Written.{head-none, head-past, head-slot}
use mathlib.Core.Path.{sym, ◌∙◌}
use native.Mathlib.Omega.{arith}
use Rattle.book.proofs.rows.head_of.Goals as goal
use Rattle.book.proofs.rows.head_of.Goals.{then-n-eq0-via-then-n-eq0, then-n-eq0-via-else-n-eq0+then-last-n}

pub returns-then-n-eq0 : goal.returns-then-n-eq0
returns-then-n-eq0 c =
    let a = c.args in
    let n = c.first_in-n.ensures in
    c.part.ensures
    ∙ sym
    (elim c.then-n-eq0.branch [
      | then-n-eq0-via-then-n-eq0 w ↦ head-none a.last a.book.now a.row.now (sym n ∙ w.if-n-eq0.true)
      | then-n-eq0-via-else-n-eq0+then-last-n w ↦ head-past a.last a.book.now a.row.now (omega arith)
    ])

pub returns : goal.returns
returns c =
    let a = c.args in
    let n = c.first_in-n.ensures in
    let i = c.first_in-n.result - 1 in
    c.slot_at.ensures ∙ sym (head-slot a.last a.book.now a.row.now i (omega arith) (omega arith))
