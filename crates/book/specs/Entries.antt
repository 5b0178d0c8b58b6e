-- What is known of an entry among the day's slots: its key, and room. It looks at entries alone, as a fill does at fills.
use Rattle.std.specs.Prelude.{ℕ, List, Bool, cond, ◌&&◌, ltb}
use Rattle.std.proofs.Math.Option.{Option, none, some}
use Rattle.octet.specs.Bytes.{same}
use Rattle.octet.specs.Maybe.{find}
use Rattle.answer.specs.Numbers.{fault, wrong_value}
use Rattle.fill.specs.Slot.{Slot, is_entry}
use Rattle.fill.specs.Entry.{key_of}
use Rattle.book.specs.declared.Placed.{Placed}
use Rattle.book.specs.declared.Placed.TheVariants.{Clash, Already, New}

-- "TradeID, CorrectionNum, Side and ExecTransType together say whether we have it already": a is an entry, and b a slot of the book
unfoldable pub same_key : Slot → Slot → Bool
same_key a b = is_entry b && same (key_of a) (key_of b)

-- known with the same contents: already booked; "a known key with other contents is Reject 5 naming ExecTransType's tag". Beside its key an entry has nothing but its contents
unfoldable pub by_key : Slot → Option Slot → Placed
by_key e none = New
by_key e (some k) = cond (same e k) Already (Clash (fault wrong_value 20))

unfoldable pub place_entry : List Slot → Slot → Placed
place_entry ss e = by_key e (find (same_key e) ss)

-- "call refusal 5 also at 256 such entries"
abbrev pub most_entries : ℕ
most_entries = 256

abbrev pub entry_room : ℕ → Bool
entry_room entries = ltb entries most_entries
