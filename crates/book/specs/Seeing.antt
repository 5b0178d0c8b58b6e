-- What the searches over a region's cells find, as the private functions say it to one another: no public promise cites this.
use Rattle.std.specs.Prelude.{ℕ, ◌<◌, min, ◌≡◌, List, [], ◌∷◌, Bool, true, false, not, ◌&&◌, ltb, Some, None}
use Rattle.std.specs.declared.option.Option as answered
use Rattle.std.proofs.Math.Option.{Option, none, some}
use Rattle.octet.specs.Bytes.{same}
use Rattle.octet.specs.Maybe.{find, find_last, is_none}
use Rattle.answer.specs.Numbers.{largest}
use Rattle.fill.specs.Slot.{Slot, slot_width, is_fill, is_entry, exec_of, order_of}
use Rattle.fill.specs.Entry.{key_of}
use Rattle.book.specs.Place.{same_exec, same_order, fill_room, orders_with}
use Rattle.book.specs.Rows.{rows_less, day_less}
use Rattle.book.specs.Memory.{most_slots, region_of, slots_here, rows_here, cell_at, slots_in, rows_in, laid}
use Rattle.book.specs.declared.Load.{Load}
use Rattle.book.specs.declared.Seen.{Seen}

-- what is found is handed back as its bytes; no bytes say that there is none
abbrev pub some_slot : Slot → Option Slot
some_slot [] = none
some_slot (b ∷ s) = some (b ∷ s)

-- the slot at a place that was found in the region m
abbrev pub found_at : List ℕ → answered.Option ℕ → Option Slot
found_at m None = none
found_at m (Some i) = some (cell_at slot_width i m)

-- what a test said of the slots that were looked at: it passed the first place, or the last, at which it passes one of n slots of the region m; none where it passes none
abbrev pub IsFirst : (Slot → Bool → Type 0) → List ℕ → ℕ → answered.Option ℕ → Type 0
IsFirst Says m n None = (k : ℕ) → k < n → Says (cell_at slot_width k m) false
IsFirst Says m n (Some i) = (i < n) × Says (cell_at slot_width i m) true × ((k : ℕ) → k < i → Says (cell_at slot_width k m) false)

abbrev pub IsLast : (Slot → Bool → Type 0) → List ℕ → ℕ → answered.Option ℕ → Type 0
IsLast Says m n None = (k : ℕ) → k < n → Says (cell_at slot_width k m) false
IsLast Says m n (Some i) = (i < n) × Says (cell_at slot_width i m) true × ((k : ℕ) → i < k → k < n → Says (cell_at slot_width k m) false)

pub record FindsFirst (Says : Slot → Bool → Type 0) (m : List ℕ) (n : ℕ) (r : answered.Option ℕ) : Type 0 where
  pub found : IsFirst Says m n r

pub record FindsLast (Says : Slot → Bool → Type 0) (m : List ℕ) (n : ℕ) (r : answered.Option ℕ) : Type 0 where
  pub found : IsLast Says m n r

-- a fill with that ExecID
abbrev pub is_exec : List ℕ → Slot → Bool
is_exec id s = is_fill s && same id (exec_of s)

-- a fill of that OrderID
abbrev pub is_order : List ℕ → Slot → Bool
is_order id s = is_fill s && same id (order_of s)

-- an entry with that key
abbrev pub is_keyed : List ℕ → Slot → Bool
is_keyed id s = is_entry s && same id (key_of s)

-- what has been seen of f among slots that stand in the region m: at its place the newest with its ExecID; and where its order is not known, no fill of it
abbrev pub Sees : List ℕ → Slot → List Slot → Seen → Type 0
Sees m f ss seen = (found_at m seen.exec ≡ find_last (same_exec f) ss) × (seen.known ≡ false → find (same_order f) ss ≡ none)

-- the same of slots of the book
abbrev pub SeesIn : List ℕ → Slot → List Slot → Seen → Type 0
SeesIn book f ss seen = Sees (region_of slots_here book) f ss seen

-- whether something was found
abbrev pub there : Slot → Bool
there s = not (is_none (some_slot s))

-- room for a fill, and the count of orders, where `known` is the first fill of the order, or no bytes
abbrev pub room_for : ℕ → Load → Slot → Bool
room_for last load known = ltb last most_slots && fill_room (there known) load.fills load.orders

abbrev pub orders_for : ℕ → Slot → ℕ
orders_for orders known = min (orders_with (there known) orders) largest

-- a memory of which nothing but the rows was written, so many of them
abbrev pub RowsAlone : List ℕ → ℕ → List ℕ → Type 0
RowsAlone m orders m' = m' ≡ laid rows_here m (rows_in orders m')

-- the slot s is acknowledged: the day's sum, the rows, and nothing else
pub record TakesOne (m : List ℕ) (last orders : ℕ) (s : Slot) (day r : ℕ) (m' : List ℕ) : Type 0 where
  pub sum : r ≡ day_less day s
  pub rows : rows_in orders m' ≡ rows_less (slots_in last m) (rows_in orders m) s
  pub alone : RowsAlone m orders m'
