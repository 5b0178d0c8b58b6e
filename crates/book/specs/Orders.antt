-- The day's orders, fills and entries, read from the slots themselves: "512 fills, 128 orders", and 256 entries; and the order rows and the day's sum as they are to be.
use Rattle.std.specs.Prelude.{ℕ, ◌+◌, ◌≡◌, List, [], ◌∷◌, ◌++◌, map, Bool, false, cond, ◌&&◌, ◌||◌, not, length, drop}
use Rattle.octet.specs.Bytes.{same}
use Rattle.fill.specs.Slot.{Slot, is_fill, is_entry, order_of}
use Rattle.book.specs.Place.{sum_where}
use Rattle.book.specs.Rows.{Row, before, row_of}
use Rattle.book.specs.declared.Load.{Load}

-- whether an OrderID is among some
abbrev pub is_among : List ℕ → List (List ℕ) → Bool
is_among id [] = false
is_among id (x ∷ ids) = same id x || is_among id ids

-- a slot more: the OrderID of a fill stands at the end, where it is not among them yet
unfoldable pub with_order : List (List ℕ) → Slot → List (List ℕ)
with_order ids s = cond (is_fill s && not (is_among (order_of s) ids)) (ids ++ (order_of s ∷ [])) ids

unfoldable pub orders_after : List (List ℕ) → List Slot → List (List ℕ)
orders_after ids [] = ids
orders_after ids (s ∷ ss) = orders_after (with_order ids s) ss

-- the OrderIDs of the fills, in the booking order of their first fills
abbrev pub orders_of : List Slot → List (List ℕ)
orders_of ss = orders_after [] ss

-- no OrderID stands twice
abbrev pub OnceIn : List (List ℕ) → Type 0
OnceIn [] = Unit
OnceIn (id ∷ ids) = (is_among id ids ≡ false) × OnceIn ids

-- how many of the slots are such, and so how many are fills, and entries
unfoldable pub count_where : (Slot → Bool) → List Slot → ℕ
count_where p [] = 0
count_where p (s ∷ ss) = cond (p s) 1 0 + count_where p ss

abbrev pub fills_of : List Slot → ℕ
fills_of ss = count_where is_fill ss

abbrev pub entries_of : List Slot → ℕ
entries_of ss = count_where is_entry ss

-- all three, as the slots have them
abbrev pub load_of : List Slot → Load
load_of ss = record { fills = fills_of ss; orders = length (orders_of ss); entries = entries_of ss }

-- ---- the order rows, where the slots up to a number are acknowledged

-- a fill of the order with that OrderID
abbrev pub of_order : List ℕ → Slot → Bool
of_order id s = is_fill s && same id (order_of s)

-- the row of an order: the number of its first fill, the LastShares of its fills, and those of its fills that wait
abbrev pub row_is : List Slot → ℕ → List ℕ → Row
row_is ss acked id = row_of (before (of_order id) ss + 1) (sum_where (of_order id) ss) (sum_where (of_order id) (drop acked ss))

-- one for each order of the day
abbrev pub rows_of : List Slot → ℕ → List Row
rows_of ss acked = map (row_is ss acked) (orders_of ss)

-- the LastShares of all fills that wait
abbrev pub day_of : List Slot → ℕ → ℕ
day_of ss acked = sum_where is_fill (drop acked ss)
