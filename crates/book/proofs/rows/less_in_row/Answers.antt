use Prim.Native.Nat.{ℕ, ◌-◌}
use Rattle.book.proofs.Written.{fewer-old, fewer-out}
use Rattle.book.specs.Rows.{first_in, booked_in, waits_in}
use mathlib.Core.Path.{ap, ◌∙◌}
use native.Mathlib.Omega.{arith}
use Rattle.book.proofs.rows.less_in_row.Goals as goal

pub returns-then-row-orders : goal.returns-then-row-orders
returns-then-row-orders c =
    let a = c.args in
    let first = c.first_in-first.ensures ∙ ap first_in c.row_at.ensures in
    let booked = c.booked_in-booked.ensures ∙ ap booked_in c.row_at-then-row-orders.ensures in
    let waits = c.waits_in-waits.ensures ∙ ap waits_in c.row_at-then-row-orders-2.ensures in
    c.put_row.ensures
    ∙ fewer-old a.book.now a.row a.orders _ _ _ a.q (omega arith) first booked (c.less.ensures ∙ ap (λ (n : ℕ). n - a.q) waits)

pub returns-else-row-orders : goal.returns-else-row-orders
returns-else-row-orders c = let a = c.args in fewer-out a.book.now a.row a.orders a.q (omega arith)
