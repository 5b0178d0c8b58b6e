use Prim.Native.Nat.{ℕ}
use Rattle.book.proofs.Finds.{order_is}
use Rattle.book.proofs.Written.{head-inside, rows-here, rows_on, rows-past}
use Rattle.book.specs.Memory.{slots_in, row_at}
use Rattle.book.specs.Rows.{head_of}
use Rattle.book.specs.Seeing.{is_order}
use mathlib.Core.Path.{sym, ap, ap₂, ◌∙◌}
use native.Mathlib.Omega.{arith}
use Rattle.book.proofs.rows.find_row.Goals as goal

pub returns-then-is_row : goal.returns-then-is_row
returns-then-is_row c =
    let a = c.args in
    let h = c.loop-i in
    let m = a.book.now in
    let f = a.slot.now in
    let few = c.min-i-end.ensures in
    let row = c.row_at.result.now in
    let head = ap (λ (k : ℕ). head_of (slots_in k m) row) c.min-most.ensures ∙ head-inside a.last m row ∙ ap (head_of (slots_in a.last m)) c.row_at.ensures in
    let told = c.is_row.ensures ∙ ap₂ is_order (c.new-order.ensures ∙ c.order_of.ensures) head ∙ order_is f (head_of (slots_in a.last m) (row_at h.i m)) in
    rows-here a.last a.orders m f h.i (omega arith) (sym told ∙ c.if-is_row.true) h.invariant

pub loop-i-preserved : goal.loop-i-preserved
loop-i-preserved c =
    let a = c.args in
    let h = c.loop-i in
    let m = a.book.now in
    let f = a.slot.now in
    let few = c.min-i-end.ensures in
    let row = c.row_at.result.now in
    let head = ap (λ (k : ℕ). head_of (slots_in k m) row) c.min-most.ensures ∙ head-inside a.last m row ∙ ap (head_of (slots_in a.last m)) c.row_at.ensures in
    let told = c.is_row.ensures ∙ ap₂ is_order (c.new-order.ensures ∙ c.order_of.ensures) head ∙ order_is f (head_of (slots_in a.last m) (row_at h.i m)) in
    rows_on a.last a.orders m f h.i (omega arith) (sym told ∙ c.if-is_row.false) h.invariant

pub returns : goal.returns
returns c =
    let a = c.args in
    let h = c.loop-i in
    let few = c.min-i-end.ensures in
    rows-past a.last a.orders a.book.now a.slot.now h.i c.book_len.ensures.book_len (omega arith) (omega arith) h.invariant
