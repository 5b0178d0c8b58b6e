-- The counts that are kept by value, and the slots they are of: "Then room: 512 fills, 128 orders"; "also at 256 such entries".
use Rattle.std.specs.Prelude.{◌+◌, ◌≡◌, true, false, ◌&&◌, ◌||◌, ltb, length}
use Rattle.fill.specs.Slot.{Slot, is_entry, order_of}
use Rattle.octet.specs.Maybe.{find}
use Rattle.book.specs.Place.{same_order, sum_where}
use Rattle.book.specs.Rows.{first_for, booked_for}
use Rattle.book.specs.Admitting.{has_room}
use Rattle.book.specs.Orders.{orders_of, fills_of, entries_of, is_among}
use Rattle.note.specs.Kept.{Kept}

pub record Counted (q : Kept) : Type 0 where
  -- the fills that are kept count the day's fills, the orders the OrderIDs of these, each once, and the entries the day's entries; the last number counts both
  pub fills : q.load.fills ≡ fills_of q.slots
  pub orders : q.load.orders ≡ length (orders_of q.slots)
  pub entries : q.load.entries ≡ entries_of q.slots
  pub last : length q.slots ≡ fills_of q.slots + entries_of q.slots
  -- so room is the paper's. For a fill: fewer than 512 fills, and its OrderID known or fewer than 128 of them
  pub room : (f : Slot) → is_entry f ≡ false
      → has_room q.slots q.rows q.load f
      ≡ ltb (fills_of q.slots) 512 && (is_among (order_of f) (orders_of q.slots) || ltb (length (orders_of q.slots)) 128)
  -- and what is known of a fill's order by its row is what the day's fills say: its first fill, and the LastShares booked. By these `place` and `in_step` are the paper's
  pub first : (f : Slot) → first_for q.slots q.rows f ≡ find (same_order f) q.slots
  pub booked : (f : Slot) → booked_for q.slots q.rows f ≡ sum_where (same_order f) q.slots
  -- for an entry: fewer than 256 entries
  pub entry-room : (e : Slot) → is_entry e ≡ true → has_room q.slots q.rows q.load e ≡ ltb (entries_of q.slots) 256
