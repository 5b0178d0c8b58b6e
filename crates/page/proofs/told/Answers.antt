-- `page::told` meets its contract: refused where few rows are lent, or the orders and the day's sum.
use mathlib.Core.Path.{sym, ap, ◌∙◌}
use native.Mathlib.Omega.{arith}
use Prim.Native.Nat.{ℕ}
use Rattle.page.specs.Page.{shows}
use Rattle.page.proofs.Showing.{told-few, told-all}
use Rattle.page.proofs.told.Goals as goal

pub returns-then-lent-lt-ROWS : goal.returns-then-lent-lt-ROWS
returns-then-lent-lt-ROWS c = let a = c.args in sym (told-few a.marks a.lent c.if-lent-lt-ROWS.true)

pub returns : goal.returns
returns c =
    let a = c.args in
    let enough = c.if-lent-lt-ROWS.false in
    ap (λ (n : ℕ). shows n a.marks.day) c.shown_of.ensures.0 ∙ sym (told-all a.marks a.lent (omega arith))
