use borrow.Author.Rules.{rules}
use mathlib.Core.List.{List}
use mathlib.Core.Path.{ap, ◌∙◌}
use Prim.Native.Nat.{ℕ}
use Rattle.octet.specs.Maybe.{find}
use Rattle.fill.specs.Slot.{slot_width}
use Rattle.book.specs.Memory.{cells}
use Rattle.book.specs.Seeing.{is_keyed}
use Rattle.book.proofs.Found.{first-found}
use Rattle.book.proofs.Keyed.{keyed}
use Rattle.book.proofs.entries.find_key.Goals as goal

pub returns : goal.returns
returns c =
    let a = c.args in
    let m = a.slots.now.all.now in
    let n = a.slots.now.count in
    first-found (is_keyed c.new-key.result.id.now) m n c.first.ensures (λ s b k. search rules)
    ∙ ap (λ (id : List ℕ). find (is_keyed id) (cells slot_width n m)) (c.new-key.ensures ∙ c.key_of.ensures)
    ∙ keyed a.slot.now (cells slot_width n m)
