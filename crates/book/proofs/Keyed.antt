-- What the definitions come to for an entry, test by test: its key, its place, room and the counts. twin is what a search found for the key.
--     key-empty, keyed     the same key
--     entry-new, entry-already, entry-clash     placement
--     entry-room, entry-booking     room, and what a booking changes and answers
use mathlib.Core.Path.{◌≡◌, refl, sym, ap, ◌∙◌}
use mathlib.Core.List.{List, []}
use mathlib.Core.Bool.{Bool, true, false, cond, not, ◌&&◌}
use mathlib.Core.Option.{Option, none, some}
use Prim.Native.Nat.{ℕ}
use lib.Dec.{ltb}
use Rattle.octet.specs.Bytes.{same}
use Rattle.octet.specs.Maybe.{find}
use Rattle.answer.specs.Numbers.{fault}
use Rattle.fill.specs.Slot.{Slot, is_entry}
use Rattle.fill.specs.Entry.{key_of}
use Rattle.book.specs.Rows.{Row, row_place}
use Rattle.book.specs.Entries.{same_key, by_key, place_entry, entry_room}
use Rattle.book.specs.Memory.{most_slots, slots_in}
use Rattle.book.specs.Admitting.{place, has_room, in_step, with_entry, stopped, booking_of}
use Rattle.book.specs.Seeing.{is_keyed}
use Rattle.book.specs.declared.Load.{Load}
use Rattle.book.specs.declared.Booking.{Booking}
use Rattle.book.specs.declared.Placed.TheVariants.{Clash, Already, New}
use Rattle.book.proofs.Regions.{slots_length}
use Rattle.book.proofs.ByKind.{place-as, room_as, load-as}

-- ---- the same key
pub key-empty : (a : Slot) → same_key a [] ≡ false
unfolding same_key
key-empty a = refl

pub keyed : (e : Slot) (ss : List Slot) → find (is_keyed (key_of e)) ss ≡ find (same_key e) ss
unfolding same_key
keyed e ss = refl

-- ---- what becomes of it
module _ (e : Slot) (h : is_entry e ≡ true) where
  module _ (ss : List Slot) (rows : List Row) where
    entry-placed : {o : Option Slot} → find (same_key e) ss ≡ o → place ss rows e ≡ by_key e o
    unfolding place_entry
    entry-placed f = place-as e h ss rows ∙ ap (by_key e) f

    pub entry-new : find (same_key e) ss ≡ none → place ss rows e ≡ New
    unfolding by_key
    entry-new f = entry-placed f

    pub entry-already : (k : Slot) → find (same_key e) ss ≡ some k → same e k ≡ true → place ss rows e ≡ Already
    unfolding by_key
    entry-already k f x = entry-placed f ∙ rw x

    pub entry-clash : (k : Slot) → find (same_key e) ss ≡ some k → same e k ≡ false → place ss rows e ≡ Clash (fault 5 20)
    unfolding by_key
    entry-clash k f x = entry-placed f ∙ rw x

  pub entry-room : (last : ℕ) (m : List ℕ) (rows : List Row) (load : Load) → ltb last most_slots && entry_room load.entries ≡ has_room (slots_in last m) rows load e
  entry-room last m rows load =
      ap (λ (n : ℕ). ltb n most_slots && entry_room load.entries) (sym (slots_length last m)) ∙ sym (room_as e h (slots_in last m) rows load)

  pub entry-booking : (ss : List Slot) (rows : List Row) (load l : Load) → l ≡ stopped (with_entry load)
      → ◌≡◌ {A = Booking} (record { load = l; row = 0; stepped = false }) (booking_of ss rows load e)
  unfolding booking_of
  entry-booking ss rows load l el =
      let a = ap stopped (load-as e h ss rows load) in
      let b = ap (λ (t : Bool). not t && in_step ss rows e) h in
      let c = ap (λ (t : Bool). cond t 0 (row_place ss rows e)) h in
      cc
