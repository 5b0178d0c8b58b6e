-- What becomes of a slot, a fill or an entry: its place among the day's, room, and what its booking changes and answers, as one answer.
use Rattle.std.specs.Prelude.{◌+◌, min, List, Bool, cond, not, ◌&&◌, length, ltb}
use Rattle.answer.specs.Numbers.{largest}
use Rattle.fill.specs.Slot.{Slot, is_entry}
use Rattle.book.specs.Memory.{most_slots}
use Rattle.book.specs.Place.{same_exec, place_fill, fill_room, fills_with, orders_with, steps}
use Rattle.book.specs.Rows.{Row, row_to, first_for, booked_for, is_known}
use Rattle.book.specs.Entries.{same_key, place_entry, entry_room}
use Rattle.book.specs.declared.Load.{Load}
use Rattle.book.specs.declared.Booking.{Booking}
use Rattle.book.specs.declared.Placed.{Placed}
use Rattle.book.specs.declared.Placed.TheVariants.{Clash, Already, New}
use Rattle.book.specs.declared.Admitted.{Admitted}
use Rattle.book.specs.declared.Admitted.TheVariants as admitted

-- the same execution, or the same entry: by ExecID, and by key. a is what comes, and b a slot of the book
unfoldable pub twins : Slot → Slot → Bool
twins a b = cond (is_entry a) (same_key a b) (same_exec a b)

-- the place of a slot among the day's: a fill's order is known by its row
unfoldable pub place : List Slot → List Row → Slot → Placed
place ss rows s = cond (is_entry s) (place_entry ss s) (place_fill ss (first_for ss rows s) s)

-- "512 fills, 128 orders"; "also at 256 such entries": each is looked at only for what comes. A slot is left wherever the counts are those of the slots
unfoldable pub has_room : List Slot → List Row → Load → Slot → Bool
has_room ss rows load s =
    ltb (length ss) most_slots
    && cond (is_entry s) (entry_room load.entries) (fill_room (is_known ss rows s) load.fills load.orders)

-- whether a fill is in step, by its order's row
unfoldable pub in_step : List Slot → List Row → Slot → Bool
in_step ss rows f = steps (first_for ss rows f) (booked_for ss rows f) f

-- ---- how many fills, orders and entries there are with a slot more

abbrev pub no_load : Load
no_load = record { fills = 0; orders = 0; entries = 0 }

abbrev pub with_entry : Load → Load
with_entry load = record { fills = load.fills; orders = load.orders; entries = load.entries + 1 }

abbrev pub with_fill : Bool → Load → Slot → Load
with_fill known load f = record { fills = fills_with load.fills f; orders = orders_with known load.orders; entries = load.entries }

unfoldable pub load_with : List Slot → List Row → Load → Slot → Load
load_with ss rows load s = cond (is_entry s) (with_entry load) (with_fill (is_known ss rows s) load s)

-- the counts stop where every count does; there is room for 512, 128 and 256 only
abbrev pub stopped : Load → Load
stopped load = record { fills = min load.fills largest; orders = min load.orders largest; entries = min load.entries largest }

-- ---- all of it

-- what a booking changes and answers: the load then, the place of the order's row, and whether it is in step; an entry has no row, and is in step with no order
unfoldable pub booking_of : List Slot → List Row → Load → Slot → Booking
booking_of ss rows load s = record {
  load = stopped (load_with ss rows load s);
  row = row_to ss rows s;
  stepped = not (is_entry s) && in_step ss rows s;
}

-- what becomes of a slot: its place among the day's, and of a new one, "then room"
abbrev pub admit_by : List Slot → List Row → Load → Slot → Placed → Admitted
admit_by ss rows load s (Clash g) = admitted.Clash g
admit_by ss rows load s Already = admitted.Already
admit_by ss rows load s New = cond (has_room ss rows load s) (admitted.New (booking_of ss rows load s)) admitted.Full

unfoldable pub admit_of : List Slot → List Row → Load → Slot → Admitted
admit_of ss rows load s = admit_by ss rows load s (place ss rows s)
