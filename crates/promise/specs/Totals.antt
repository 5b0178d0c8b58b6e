-- TOTALS ON THE SCREEN: "Keep them for each order and for the day, true through booking, acknowledging, a new day and a restart"; "Demand 3's
-- total is still read from the history, and these stored sums, with the contracts acknowledged, must equal it". Of every world that steps lead
-- to; and the page, of what a caller holds.
use Rattle.std.specs.Prelude.{ℕ, ◌+◌, ◌*◌, ◌≤◌, ◌<◌, ◌≡◌, List, [], ◌++◌, map, length, drop, get_or, replicate, Err}
use Rattle.std.proofs.Math.Option.{Option, none, some}
use Rattle.octet.specs.Bytes.{sum_of}
use Rattle.octet.specs.Splice.{splice}
use Rattle.octet.specs.Maybe.{find}
use Rattle.answer.specs.declared.Refusal.TheVariants as refusal
use Rattle.fill.specs.Slot.{Slot, is_fill}
use Rattle.book.specs.Place.{same_order, sum_where}
use Rattle.book.specs.Rows.{Row, booked_in, waits_in, head_of, row_for}
use Rattle.book.specs.Orders.{orders_of, of_order, rows_of, OnceIn}
use Rattle.note.specs.Kept.{Kept, empty, waiting}
use Rattle.page.specs.declared.OrderRow.{OrderRow}
use Rattle.page.specs.Page.{Paged, shows}
use Rattle.promise.specs.World.{World, Cut, step, survivors, left, today, booked_by, acknowledged, distinct}

-- ---- what is stored

-- the contracts waiting that the row of the order of f has; 0 where the order has none
abbrev pub waits_by : Option Row → ℕ
waits_by none = 0
waits_by (some r) = waits_in r

abbrev pub waits_for : Kept → Slot → ℕ
waits_for q f = waits_by (row_for q.slots q.rows f)

-- the row r is that of the order with this OrderID
pub record RowIs (q : Kept) (id : List ℕ) (r : Row) : Type 0 where
  pub head : find (of_order id) q.slots ≡ some (head_of q.slots r)
  pub booked : booked_in r ≡ sum_where (of_order id) q.slots
  pub waits : waits_in r ≡ sum_where (of_order id) (waiting q)

pub record Totals (w : World) : Type 0 where
  -- ---- stored equals computed: a row for each order of the day, and no other
  pub rows : w.live.kept.rows ≡ rows_of w.live.kept.slots w.live.kept.acked
  pub many : length w.live.kept.rows ≡ length (orders_of w.live.kept.slots)
  pub once : OnceIn (orders_of w.live.kept.slots)
  -- the i-th, from 0, is that of the order with the i-th OrderID in the booking order of the orders' first fills
  pub each : (i : ℕ) → i < length (orders_of w.live.kept.slots)
      → RowIs w.live.kept (get_or (orders_of w.live.kept.slots) i []) (get_or w.live.kept.rows i [])
  -- the day's sum is that of all fills that wait, and so of the rows
  pub day : w.live.kept.day ≡ sum_where is_fill (waiting w.live.kept)
  pub sum : w.live.kept.day ≡ sum_of (map waits_in w.live.kept.rows)
  -- no sum comes near the number at which it would stop
  pub most : sum_where is_fill w.live.kept.slots ≤ 512 * 999999
  -- ---- DEMAND 3, with what is stored: "order by order", and for the day, contracts acknowledged plus the stored sum equal the LastShares
  -- of the distinct executions booked by the calls whose notes survived whole; the total is read from the history
  pub order : (f : Slot) → sum_where (same_order f) (acknowledged (today w)) + waits_for w.live.kept f ≡ sum_where (same_order f) (distinct (booked_by (today w)))
  pub total : sum_where is_fill (acknowledged (today w)) + w.live.kept.day ≡ sum_where is_fill (distinct (booked_by (today w)))
  -- ---- where the last number is acknowledged nothing waits: every row stays, with 0
  pub done : w.live.kept.acked ≡ length w.live.kept.slots
      → (map waits_in w.live.kept.rows ≡ replicate (length w.live.kept.rows) 0) × (w.live.kept.day ≡ 0)
  -- ---- after a cut they are those that the last surviving call left
  pub cut : (k : ℕ) → ((step w (Cut k)).live.kept.rows ≡ (left empty (w.past ++ survivors k w.history)).rows)
      × ((step w (Cut k)).live.kept.day ≡ (left empty (w.past ++ survivors k w.history)).day)

-- ---- the page

-- "one row for each order (OrderID, waiting contracts)": the OrderID in 31 bytes, with its length byte and zero padding
abbrev pub order_row : Kept → List ℕ → OrderRow
order_row q id = record { id = splice (replicate 31 0) 0 id; waiting = sum_where (of_order id) (waiting q) }

-- what the page answers and leaves in the lent rows, where q is what is kept: "1 also where fewer than 128 rows are lent"; "filled in booking
-- order of the orders' first fills; rows beyond the last order are left as found"
pub record Page (q : Kept) (rows : List OrderRow) (r : Paged) (rows' : List OrderRow) : Type 0 where
  pub refused : length rows < 128 → (r ≡ Err refusal.ShortBuffer) × (rows' ≡ rows)
  pub shown : 128 ≤ length rows
      → (r ≡ shows (length (orders_of q.slots)) (sum_where is_fill (waiting q)))
      × (rows' ≡ map (order_row q) (orders_of q.slots) ++ drop (length (orders_of q.slots)) rows)
