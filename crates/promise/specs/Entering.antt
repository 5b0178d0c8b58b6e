-- "It changes neither an order's state nor its open contracts": what an entry leaves as it was, of the day's fills and orders and of every report that comes after it.
use Rattle.std.specs.Prelude.{ℕ, ◌+◌, ◌≡◌, List, [], ◌∷◌, ◌++◌, false, length}
use Rattle.octet.specs.Maybe.{find, find_last}
use Rattle.field.specs.Pieces.{Pieces}
use Rattle.answer.specs.declared.Setup.{Setup}
use Rattle.answer.specs.declared.Outcome.TheVariants.{Booked}
use Rattle.fill.specs.Slot.{Slot, is_entry}
use Rattle.book.specs.Place.{same_exec, same_order, sum_where, place_fill}
use Rattle.book.specs.Rows.{Row, first_for, rows_with, day_with}
use Rattle.book.specs.Admitting.{in_step}
use Rattle.book.specs.Orders.{orders_of, fills_of}
use Rattle.session.specs.Session.{raised}
use Rattle.receiver.specs.State.{State, session_of, with_session}
use Rattle.receiver.specs.Calls.{This, brings_of, becomes, booked_as, with_slot}

-- an entry e after the slots ss: for every fill f
pub record Apart (ss : List Slot) (e : Slot) : Type 0 where
  -- its ExecID is known as before
  pub known : (f : Slot) → find_last (same_exec f) (ss ++ (e ∷ [])) ≡ find_last (same_exec f) ss
  -- its order's first fill is the same, so its symbol, its side and what was carried in; and so is its booked sum
  pub order : (f : Slot) → find (same_order f) (ss ++ (e ∷ [])) ≡ find (same_order f) ss
  pub sum : (f : Slot) → sum_where (same_order f) (ss ++ (e ∷ [])) ≡ sum_where (same_order f) ss
  -- whatever the order rows, it is placed as before, and in step as before
  pub placed : (rows : List Row) (f : Slot) → place_fill (ss ++ (e ∷ [])) (first_for (ss ++ (e ∷ [])) rows f) f ≡ place_fill ss (first_for ss rows f) f
  pub stepped : (rows : List Row) (f : Slot) → in_step (ss ++ (e ∷ [])) rows f ≡ in_step ss rows f
  -- no row is another's, and none waits for more: the day's sum neither
  pub rows : (rows : List Row) → rows_with ss rows e ≡ rows
  pub day : (day : ℕ) → day_with day e ≡ day
  -- no order is made, and no fill
  pub orders : orders_of (ss ++ (e ∷ [])) ≡ orders_of ss
  pub fills : fills_of (ss ++ (e ∷ [])) ≡ fills_of ss

-- the state after a message that was only heard
abbrev pub after_hearing : State → State
after_hearing st = with_session st (raised (session_of st))

-- a message that comes after the entry e was kept, beside the same after one that was only heard
pub record Later (st : State) (e : Slot) : Type 0 where
  -- it brings the same
  pub brings : (setup : Setup) (ps : Pieces) → brings_of setup (with_slot st e) ps ≡ brings_of setup (after_hearing st) ps
  -- a report's fill becomes the same: kept, answered or refused
  pub becomes' : (n : ℕ) (f : Slot) → is_entry f ≡ false → becomes (with_slot st e) (This n f) ≡ becomes (after_hearing st) (This n f)
  -- and is answered the same but for its number
  pub answered : (f : Slot) → is_entry f ≡ false
      → (booked_as (after_hearing st) f ≡ Booked (length st.kept.slots + 1) (in_step st.kept.slots st.kept.rows f))
      × (booked_as (with_slot st e) f ≡ Booked (length st.kept.slots + 2) (in_step st.kept.slots st.kept.rows f))
