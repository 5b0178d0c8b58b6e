use Prim.Native.Nat.{ℕ}
use Rattle.book.proofs.Regions.{front-cells}
use Rattle.book.specs.Memory.{most_slots, slots_here, rows_here, holding}
use Rattle.book.specs.Place.{most_orders}
use Rattle.book.specs.Rows.{row_width}
use Rattle.fill.specs.Slot.{slot_width}
use Rattle.octet.specs.Splice.{splice}
use mathlib.Core.List.{List}
use mathlib.Core.Path.{refl, ap, ap₂, ◌∙◌}
use native.Mathlib.Omega.{arith}
use Rattle.book.proofs.put_day.Goals as goal

pub returns : goal.returns
unfolding holding
returns c =
    let a = c.args in
    let book = a.book.now in
    let m = a.from.now in
    let slots = c.part.ensures ∙ front-cells slots_here slot_width most_slots refl m (omega arith) a.count _ c.min.ensures in
    let rows = c.part-2.ensures ∙ front-cells rows_here row_width most_orders refl m (omega arith) a.orders _ c.min-2.ensures in
    record { book_after = c.copy_into-2.ensures.1 ∙ ap₂ (λ (x y : List ℕ). splice x rows_here.at y) (c.copy_into.ensures.1 ∙ ap (splice book 0) slots) rows; book_len = omega arith }
