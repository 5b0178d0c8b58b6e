-- The lent memory, of any content: its regions, one after another, and the cells that each holds: the day's slots, and the order rows.
use Rattle.std.specs.Prelude.{ℕ, zero, suc, ◌+◌, ◌*◌, ◌≡◌, List, [], ◌∷◌, Bool, cond, ◌&&◌, length, take, drop, ltb, eqb}
use Rattle.octet.specs.Bytes.{part, joined}
use Rattle.octet.specs.Splice.{splice}
use Rattle.fill.specs.Slot.{Slot, slot_width, is_fill, shares_of}
use Rattle.book.specs.Place.{most_orders}
use Rattle.book.specs.Rows.{Row, row_width, row_of, raised, lowered, rows_without, day_without}

-- ---- regions

-- where a region begins, and how many bytes it has
pub record Region : Type 0 where
  pub at : ℕ
  pub wide : ℕ

abbrev pub region_of : Region → List ℕ → List ℕ
region_of r m = part r.at r.wide m

-- so many slots: 512 fills and 256 entries
abbrev pub most_slots : ℕ
most_slots = 768

-- the slots stand at the front, and the order rows after them
abbrev pub slots_here : Region
slots_here = record { at = 0; wide = most_slots * slot_width }

abbrev pub rows_here : Region
rows_here = record { at = slots_here.wide; wide = most_orders * row_width }

abbrev pub book_width : ℕ
book_width = slots_here.wide + rows_here.wide

-- ---- the cells of a region, each of the same width, one after another; past its end they are empty

unfoldable pub cells : ℕ → ℕ → List ℕ → List (List ℕ)
cells w zero m = []
cells w (suc count) m = take w m ∷ cells w count (drop w m)

-- the i-th, from 0; no bytes past the end
abbrev pub cell_at : ℕ → ℕ → List ℕ → List ℕ
cell_at w i m = part (i * w) w m

-- a region with cells laid over it, from the first place on: "Lent bytes past what is written stay"
abbrev pub laid : Region → List ℕ → List (List ℕ) → List ℕ
laid r m xs = splice m r.at (joined xs)

-- ---- the slots

abbrev pub slots_in : ℕ → List ℕ → List Slot
slots_in count m = cells slot_width count (region_of slots_here m)

abbrev pub slot_at : ℕ → List ℕ → Slot
slot_at i m = cell_at slot_width i (region_of slots_here m)

-- whether a slot can be written after the last of `count`
abbrev pub fits_after : ℕ → Slot → Bool
fits_after count s = ltb count most_slots && eqb (length s) slot_width

-- the memory with a slot more after the last of `count`
unfoldable pub appended : List ℕ → ℕ → Slot → List ℕ
appended m count s = cond (fits_after count s) (splice m (slots_here.at + count * slot_width) s) m

-- ---- the order rows

abbrev pub rows_in : ℕ → List ℕ → List Row
rows_in count m = cells row_width count (region_of rows_here m)

abbrev pub row_at : ℕ → List ℕ → Row
row_at i m = cell_at row_width i (region_of rows_here m)

-- the memory with its i-th row written
unfoldable pub row_put : List ℕ → ℕ → Row → List ℕ
row_put m i r = cond (ltb i most_orders) (splice m (rows_here.at + i * row_width) r) m

-- ---- both

-- the memory with slots and rows laid over it
unfoldable pub holding : List ℕ → List Slot → List Row → List ℕ
holding m ss rows = laid rows_here (laid slots_here m ss) rows

-- with a slot more after the last of `count`, and the contracts of a fill in the row at a place: one of so many, or one more behind the last
unfoldable pub row_more : List ℕ → ℕ → ℕ → ℕ → Slot → List ℕ
row_more m count orders row s =
    row_put m row (cond (ltb row orders) (raised (shares_of s) (row_at row m)) (row_of (count + 1) (shares_of s) (shares_of s)))

unfoldable pub entered : List ℕ → ℕ → ℕ → ℕ → Slot → List ℕ
entered m count orders row s =
    cond (fits_after count s) (cond (is_fill s) (row_more (appended m count s) count orders row s) (appended m count s)) m

-- with contracts taken off those that wait in the row at a place, one of so many
unfoldable pub row_fewer : List ℕ → ℕ → ℕ → ℕ → List ℕ
row_fewer m orders row q = cond (ltb row orders) (row_put m row (lowered q (row_at row m))) m

-- the slots after number `from`, up to number `to`
abbrev pub between : ℕ → ℕ → List Slot → List Slot
between from to ss = drop from (take to ss)

-- these are acknowledged: what is left of the day's sum, and the memory with what is left in the rows
abbrev pub TakesOff : List ℕ → ℕ → ℕ → ℕ → ℕ → ℕ → ℕ → List ℕ → Type 0
TakesOff m last orders from to day r m' =
    (r ≡ day_without day (between from to (slots_in last m)))
    × (m' ≡ laid rows_here m (rows_without (slots_in last m) (rows_in orders m) (between from to (slots_in last m))))
