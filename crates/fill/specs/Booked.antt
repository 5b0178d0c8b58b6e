-- Any slot, by its first byte: a fill or an entry. What the book has as one, how wide its parts are, when it is lawful, and its line of the listing.
use Rattle.std.specs.Prelude.{ℕ, ◌-◌, ◌≡◌, ◌⊎◌, List, Bool, true, cond, length, get_or, eqb}
use Rattle.fill.specs.Slot.{Slot, slot_width, entry_mark, is_fill, is_entry, widths, fill_lawful, fill_line}
use Rattle.fill.specs.Entry.{entry_widths, entry_lawful, entry_line}

-- a slot as the book has it: of its width, and a fill or an entry, whose last byte is zero
pub record IsSlot (s : Slot) : Type 0 where
  pub wide : length s ≡ slot_width
  pub marked : (is_fill s ≡ true) ⊎ (is_entry s ≡ true)
  pub normal : is_entry s ≡ true → get_or s (slot_width - 1) 0 ≡ 0

-- the widths of the parts of a slot with that first byte
abbrev pub widths_for : ℕ → List ℕ
widths_for mark = cond (eqb mark entry_mark) entry_widths widths

unfoldable pub slot_lawful : Slot → Bool
slot_lawful s = cond (is_entry s) (entry_lawful s) (fill_lawful s)

unfoldable pub line_of : ℕ → Slot → List ℕ
line_of n s = cond (is_entry s) (entry_line n s) (fill_line n s)
