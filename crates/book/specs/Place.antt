-- What is known of a fill among the day's: ExecID, order, room, in step. Rows says how its order is found, Entries has the same of an entry, and Admitting what is
-- said of any slot.
use Rattle.std.specs.Prelude.{ℕ, ◌+◌, ◌-◌, List, [], ◌∷◌, Bool, true, false, cond, ◌&&◌, ◌||◌, not, ltb, eqb}
use Rattle.std.proofs.Math.Option.{Option, none, some}
use Rattle.octet.specs.Bytes.{same}
use Rattle.octet.specs.Maybe.{find, find_last, is_none}
use Rattle.answer.specs.Numbers.{fault, wrong_value}
use Rattle.fill.specs.Slot.{Slot, is_fill, exec_of, order_of, symbol_of, side_of, shares_of, price_of, cum_of}
use Rattle.book.specs.declared.Placed.{Placed}
use Rattle.book.specs.declared.Placed.TheVariants.{Clash, Already, New}

-- ---- predicates on two slots: a is a fill, and b a slot of the book

unfoldable pub same_exec : Slot → Slot → Bool
same_exec a b = is_fill b && same (exec_of a) (exec_of b)

unfoldable pub same_order : Slot → Slot → Bool
same_order a b = is_fill b && same (order_of a) (order_of b)

abbrev pub same_symbol : Slot → Slot → Bool
same_symbol a b = same (symbol_of a) (symbol_of b)

abbrev pub same_side : Slot → Slot → Bool
same_side a b = eqb (side_of a) (side_of b)

-- "same OrderID, symbol, side, LastShares and price"
unfoldable pub same_contents : Slot → Slot → Bool
same_contents a b =
    same (order_of a) (order_of b) && same_symbol a b && same_side a b && eqb (shares_of a) (shares_of b) && eqb (price_of a) (price_of b)

-- ---- placement

-- "OrderID known with another symbol: tag 55; another side: tag 54"
unfoldable pub by_order : Slot → Option Slot → Placed
by_order f none = New
by_order f (some k) = cond (same_symbol f k) (cond (same_side f k) New (Clash (fault wrong_value 54))) (Clash (fault wrong_value 55))

-- "ExecID (17) known today: same .. is already booked ..; anything different is Reject 5 tag 17". `known` is the first fill of its order
unfoldable pub by_exec : Slot → Option Slot → Option Slot → Placed
by_exec f known none = by_order f known
by_exec f known (some k) = cond (same_contents f k) Already (Clash (fault wrong_value 17))

-- of the fills with an ExecID the newest counts: in a day there is one at most
unfoldable pub place_fill : List Slot → Option Slot → Slot → Placed
place_fill ss known f = by_exec f known (find_last (same_exec f) ss)

abbrev pub is_new : Placed → Bool
is_new (Clash f) = false
is_new Already = false
is_new New = true

-- ---- room: "512 fills, 128 orders"

abbrev pub most_fills : ℕ
most_fills = 512

abbrev pub most_orders : ℕ
most_orders = 128

-- whether an order has a fill among some
unfoldable pub known_order : List Slot → Slot → Bool
known_order ss f = not (is_none (find (same_order f) ss))

-- how many fills and how many orders there are with a fill more. They are counted as slots are booked
abbrev pub fills_with : ℕ → Slot → ℕ
fills_with fills f = cond (is_fill f) (fills + 1) fills

abbrev pub orders_with : Bool → ℕ → ℕ
orders_with known orders = cond known orders (orders + 1)

abbrev pub fill_room : Bool → ℕ → ℕ → Bool
fill_room known fills orders = ltb fills most_fills && (known || ltb orders most_orders)

-- ---- in step

-- the sum of LastShares over the slots of any row predicate
unfoldable pub sum_where : (Slot → Bool) → List Slot → ℕ
sum_where p [] = 0
sum_where p (s ∷ ss) = cond (p s) (shares_of s) 0 + sum_where p ss

-- "carried-in (first report's CumQty less LastShares)"
abbrev pub carried : Slot → Option Slot → ℕ
carried f none = cum_of f - shares_of f
carried f (some k) = cum_of k - shares_of k

-- "The answer says in step when CumQty is carried-in plus booked sum, this fill included": by the first fill of its order, and the contracts booked
abbrev pub steps : Option Slot → ℕ → Slot → Bool
steps known booked f = eqb (cum_of f) (carried f known + (booked + shares_of f))
