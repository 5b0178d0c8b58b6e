-- The order rows: one for each order of the day, in the booking order of their first fills. "Keep them for each order and for the day, true through booking, acknowledging, a new
-- day and a restart": what a row keeps, how an order is found by it, and what a fill more and an acknowledged fill change.
use Rattle.std.specs.Prelude.{ℕ, zero, suc, ◌+◌, ◌-◌, List, [], ◌∷◌, ◌++◌, Bool, cond, not, length, get_or}
use Rattle.std.proofs.Math.Option.{Option, none, some}
use Rattle.octet.specs.Bytes.{part}
use Rattle.octet.specs.Places.{high, big_endian}
use Rattle.octet.specs.Maybe.{find, is_none}
use Rattle.answer.specs.Numbers.{counted}
use Rattle.fill.specs.Slot.{Slot, is_fill, is_entry, shares_of}
use Rattle.book.specs.Place.{same_order}

abbrev pub Row : Type 0
Row = List ℕ

-- ---- the number of its first fill, the contracts booked, and those of them that wait; four bytes each, high byte first

abbrev pub row_width : ℕ
row_width = 12

abbrev pub first_in : Row → ℕ
first_in r = big_endian (part 0 4 r)

abbrev pub booked_in : Row → ℕ
booked_in r = big_endian (part 4 4 r)

abbrev pub waits_in : Row → ℕ
waits_in r = big_endian (part 8 4 r)

unfoldable pub row_of : ℕ → ℕ → ℕ → Row
row_of first booked waits = high 4 first ++ high 4 booked ++ high 4 waits

-- ---- the row of an order, among the rows of a day with the slots ss

-- the slot of number n; no bytes where there is none
abbrev pub numbered : ℕ → List Slot → Slot
numbered zero ss = []
numbered (suc i) ss = get_or ss i []

-- the first fill of a row's order
abbrev pub head_of : List Slot → Row → Slot
head_of ss r = numbered (first_in r) ss

-- whether it is the row of the order of f
abbrev pub is_row_of : List Slot → Slot → Row → Bool
is_row_of ss f r = same_order f (head_of ss r)

unfoldable pub row_for : List Slot → List Row → Slot → Option Row
row_for ss rows f = find (is_row_of ss f) rows

-- how many stand before the first that passes a test; all of them where none does
abbrev pub before : {A : Type 0} → (A → Bool) → List A → ℕ
before p [] = 0
before p (x ∷ xs) = let more = suc (before p xs) in cond (p x) 0 more

-- where that row stands among them; behind the last where there is none
unfoldable pub row_place : List Slot → List Row → Slot → ℕ
row_place ss rows f = before (is_row_of ss f) rows

-- where the row of any slot's order stands; an entry has none, and 0 is said
abbrev pub row_to : List Slot → List Row → Slot → ℕ
row_to ss rows s = cond (is_entry s) 0 (row_place ss rows s)

-- ---- what is known of an order by its row: its first fill, and the contracts booked

abbrev pub head_by : List Slot → Option Row → Option Slot
head_by ss none = none
head_by ss (some r) = some (head_of ss r)

abbrev pub booked_by : Option Row → ℕ
booked_by none = 0
booked_by (some r) = booked_in r

unfoldable pub first_for : List Slot → List Row → Slot → Option Slot
first_for ss rows f = head_by ss (row_for ss rows f)

unfoldable pub booked_for : List Slot → List Row → Slot → ℕ
booked_for ss rows f = booked_by (row_for ss rows f)

unfoldable pub is_known : List Slot → List Row → Slot → Bool
is_known ss rows f = not (is_none (row_for ss rows f))

-- ---- contracts more, and contracts less: a sum stops at the largest number, and at 0

unfoldable pub raised : ℕ → Row → Row
raised q r = row_of (first_in r) (counted (booked_in r) q) (counted (waits_in r) q)

unfoldable pub lowered : ℕ → Row → Row
lowered q r = row_of (first_in r) (booked_in r) (waits_in r - q)

-- the rows with the first that passes a test changed
abbrev pub on_first : (Row → Bool) → (Row → Row) → List Row → List Row
on_first p g [] = []
on_first p g (r ∷ rows) = let rest = r ∷ on_first p g rows in cond (p r) (g r ∷ rows) rest

-- a fill more: its order's row, or a row more at the end
abbrev pub more_of : List Slot → List Row → Slot → List Row
more_of ss rows f =
    cond (is_known ss rows f) (on_first (is_row_of ss f) (raised (shares_of f)) rows) (rows ++ (row_of (length ss + 1) (shares_of f) (shares_of f) ∷ []))

-- a slot more: an entry has no contracts
unfoldable pub rows_with : List Slot → List Row → Slot → List Row
rows_with ss rows s = cond (is_fill s) (more_of ss rows s) rows

unfoldable pub day_with : ℕ → Slot → ℕ
day_with day s = cond (is_fill s) (counted day (shares_of s)) day

-- slots that are acknowledged, one after another: each fill takes its LastShares off its order's row, and off the day's sum
unfoldable pub rows_less : List Slot → List Row → Slot → List Row
rows_less ss rows s = cond (is_fill s) (on_first (is_row_of ss s) (lowered (shares_of s)) rows) rows

unfoldable pub day_less : ℕ → Slot → ℕ
day_less day s = cond (is_fill s) (day - shares_of s) day

unfoldable pub rows_without : List Slot → List Row → List Slot → List Row
rows_without ss rows [] = rows
rows_without ss rows (s ∷ taken) = rows_without ss (rows_less ss rows s) taken

unfoldable pub day_without : ℕ → List Slot → ℕ
day_without day [] = day
day_without day (s ∷ taken) = day_without (day_less day s) taken
