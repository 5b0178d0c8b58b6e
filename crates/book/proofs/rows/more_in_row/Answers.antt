use Rattle.answer.specs.Numbers.{counted}
use Rattle.book.proofs.Written.{more-old, more-new}
use Rattle.book.specs.Rows.{first_in, booked_in, waits_in}
use mathlib.Core.Path.{refl, ap, ap₂, ◌∙◌}
use native.Mathlib.Omega.{arith}
use Rattle.book.proofs.rows.more_in_row.Goals as goal

pub returns-then-row-orders : goal.returns-then-row-orders
returns-then-row-orders c =
    let a = c.args in
    let q = c.shares_of-q.ensures in
    let first = c.first_in-first.ensures ∙ ap first_in c.row_at.ensures in
    let booked = c.booked_in-booked.ensures ∙ ap booked_in c.row_at-then-row-orders.ensures in
    let waits = c.waits_in-waits.ensures ∙ ap waits_in c.row_at-then-row-orders-2.ensures in
    c.put_row.ensures
    ∙ more-old a.book.now a.row a.orders _ _ _ a.count a.slot.now (omega arith) first
    (c.count_on.ensures ∙ ap₂ counted booked q) (c.count_on-then-row-orders.ensures ∙ ap₂ counted waits q)

pub returns-else-row-orders : goal.returns-else-row-orders
returns-else-row-orders c =
    let a = c.args in
    let q = c.shares_of-q.ensures in
    c.put_row-else-row-orders.ensures ∙ more-new a.book.now a.row a.orders _ _ _ a.count a.slot.now (omega arith) refl q q
