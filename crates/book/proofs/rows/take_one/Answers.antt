use Rattle.book.proofs.Written.{takes_none, takes-fill}
use Rattle.book.specs.Memory.{slots_in, slot_at, rows_in}
use Rattle.book.specs.Rows.{row_place}
use Rattle.fill.specs.Slot.{is_fill, shares_of}
use mathlib.Core.Bool.{true, false}
use mathlib.Core.Path.{◌≡◌, sym, ap, ◌∙◌}
use Rattle.book.proofs.rows.take_one.Goals as goal

pub returns-then-not-is_fill : goal.returns-then-not-is_fill
returns-then-not-is_fill c =
    let a = c.args in
    let m = a.book.now in
    let other : is_fill (slot_at a.i m) ≡ false = ap is_fill (sym c.slot_at.ensures) ∙ sym c.is_fill.ensures ∙ c.if-not-is_fill.true in
    takes_none m c.book_len.ensures.book_len a.last a.orders (slot_at a.i m) a.day other

pub returns : goal.returns
returns c =
    let a = c.args in
    let m = a.book.now in
    let s = slot_at a.i m in
    let fill : is_fill s ≡ true = ap is_fill (sym c.slot_at.ensures) ∙ sym c.is_fill.ensures ∙ c.if-not-is_fill.false in
    let q = c.shares_of-q.ensures ∙ ap shares_of c.slot_at-2.ensures in
    let row = c.find_row-row.ensures ∙ ap (row_place (slots_in a.last m) (rows_in a.orders m)) c.slot_at-3.ensures in
    takes-fill m c.book_len.ensures.book_len a.last a.orders s _ _ a.day _ _ fill q row c.less_in_row.ensures c.less.ensures
