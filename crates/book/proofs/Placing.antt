-- What the definitions of placement, room and step come to for a fill, test by test; twin and known are what a walk found for the ExecID and the order.
-- Keyed has the same of an entry, and what becomes of any slot stands at the end.
--     order-new, order-symbol, order-side, order_same     placement by the order
--     exec-new, exec-already, exec-clash, placed-by, alone     placement
--     room_by     room; has_room_lem: what it says, of any slot
--     step_by, booking-by     in step, and what a booking changes and answers
--     booking-load     with room the counts are as they stand, of any slot
--     admit-is     what becomes of a slot is decided by its placement
--     admit-clash, admit-already, admit-full, admit-new     and what it is in each case
--     admitted-clash, admitted-already, admitted-full, admitted-new     what an answer says of placement and room
use mathlib.Core.Path.{◌≡◌, refl, sym, ap, ap₂, ◌∙◌, subst}
use mathlib.Core.List.{List}
use mathlib.Core.Option.{Option, none, some}
use mathlib.Core.Bool.{Bool, true, false, cond, not, ◌&&◌, ◌||◌}
use Prim.Native.Nat.{ℕ, ◌+◌, ◌≤◌, ◌<◌, min}
use mathlib.Core.Logic.{⊎_elim}
use native.Mathlib.Nat.{min-eq_left}
use native.Mathlib.Omega.{arith}
use lib.ListN.{length}
use lib.Dec.{ltb}
use borrow.Author.Tests.{ltb-true}
use Rattle.octet.specs.Maybe.{find_last, is_none}
use Rattle.octet.proofs.Cases.{bool_case, cond-true, cond-false, of-cond, or_cases, and_both}
use Rattle.answer.specs.Numbers.{fault, wrong_value, largest}
use Rattle.answer.specs.declared.Fault.{Fault}
use Rattle.fill.specs.Slot.{Slot, is_fill, is_entry}
use Rattle.book.specs.Place.{same_exec, same_symbol, same_side, same_contents, by_order, by_exec, place_fill}
use Rattle.book.specs.Place.{fills_with, orders_with, fill_room, steps, most_fills, most_orders}
use Rattle.book.specs.Rows.{Row, row_place, first_for, booked_for, is_known}
use Rattle.book.specs.Entries.{entry_room, most_entries}
use Rattle.book.specs.Memory.{most_slots, slots_in}
use Rattle.book.specs.Admitting.{place, has_room, in_step, load_with, stopped, booking_of, admit_by, admit_of}
use Rattle.book.specs.Seeing.{some_slot, there, room_for, orders_for}
use Rattle.book.specs.declared.Load.{Load}
use Rattle.book.specs.declared.Booking.{Booking}
use Rattle.book.specs.declared.Placed.{Placed}
use Rattle.book.specs.declared.Placed.TheVariants.{Clash, Already, New}
use Rattle.book.specs.declared.Admitted.{Admitted}
use Rattle.book.specs.declared.Admitted.TheVariants as admitted
use Rattle.book.proofs.Regions.{slots_length}
use Rattle.book.proofs.Rowing.{known_is}
use Rattle.book.proofs.Finds.{known-none, known_some}
use Rattle.book.proofs.ByKind.{loads, place-as, room_as, load-as}

-- ---- by the order
module _ (f k : Slot) where
  pub order-new : length k ≡ 0 → New ≡ by_order f (some_slot k)
  unfolding by_order
  order-new h = sym (ap (by_order f) (known-none k h))

  module _ (some_bytes : length k ≡ 0 → ⊥) where
    known : by_order f (some_slot k) ≡ by_order f (some k)
    known = ap (by_order f) (known_some k some_bytes)

    pub order-symbol : same_symbol f k ≡ false → Clash (fault 5 55) ≡ by_order f (some_slot k)
    unfolding by_order
    order-symbol e = sym (known ∙ rw e)

    pub order-side : same_symbol f k ≡ true → same_side f k ≡ false → Clash (fault 5 54) ≡ by_order f (some_slot k)
    unfolding by_order
    order-side e g = sym (known ∙ rw (e, g))

    pub order_same : same_symbol f k ≡ true → same_side f k ≡ true → New ≡ by_order f (some_slot k)
    unfolding by_order
    order_same e g = sym (known ∙ rw (e, g))

-- ---- room
module _ (last : ℕ) (load : Load) (k : Slot) where
  pub room_by : (m : List ℕ) (rows : List Row) (f : Slot) → is_entry f ≡ false → there k ≡ is_known (slots_in last m) rows f → room_for last load k ≡ has_room (slots_in last m) rows load f
  room_by m rows f h e =
      ap₂ (λ (n : ℕ) (b : Bool). ltb n most_slots && fill_room b load.fills load.orders) (sym (slots_length last m)) e
      ∙ sym (room_as f h (slots_in last m) rows load)

-- what room says: of a slot after the last in any case
pub record Room (ss : List Slot) (rows : List Row) (load : Load) (s : Slot) : Type 0 where
  pub slot-left : length ss < most_slots
  pub few-fills : is_entry s ≡ false → load.fills < most_fills
  pub order-left : is_entry s ≡ false → (is_known ss rows s || ltb load.orders most_orders) ≡ true
  pub few-entries : is_entry s ≡ true → load.entries < most_entries

pub has_room_lem : (ss : List Slot) (rows : List Row) (load : Load) (s : Slot) → has_room ss rows load s ≡ true → Room ss rows load s
unfolding has_room
has_room_lem ss rows load s e =
    let fills = ltb load.fills most_fills in
    let order = is_known ss rows s || ltb load.orders most_orders in
    let both : is_entry s ≡ false → (fills ≡ true) × (order ≡ true)
    = λ h. and_both fills order (and_both (ltb (length ss) most_slots) (fills && order) (sym (room_as s h ss rows load) ∙ e)).1 in
    record {
      slot-left = ltb-true (length ss) most_slots (and_both (ltb (length ss) most_slots) (cond (is_entry s) (entry_room load.entries) (fills && order)) e).0;
      few-fills = λ h. ltb-true load.fills most_fills (both h).0;
      order-left = λ h. (both h).1;
      few-entries = λ h. ltb-true load.entries most_entries
          (and_both (ltb (length ss) most_slots) (entry_room load.entries) (sym (room_as s h ss rows load) ∙ e)).1;
    }

-- k is what stands for the first fill of its order, and row the row's place
module _ (ss : List Slot) (rows : List Row) (load : Load) (f k : Slot) (found : some_slot k ≡ first_for ss rows f) where
  pub there-by : there k ≡ is_known ss rows f
  there-by = ap (λ (o : Option Slot). not (is_none o)) found ∙ known_is ss rows f

  -- ---- in step
  pub step_by : (booked : ℕ) (r : Bool) → booked ≡ booked_for ss rows f → r ≡ steps (some_slot k) booked f → r ≡ in_step ss rows f
  unfolding in_step
  step_by booked r eb er = er ∙ ap₂ (λ (o : Option Slot) (n : ℕ). steps o n f) found eb

  pub booking-by : (m n place : ℕ) (step : Bool) → is_entry f ≡ false → load.entries ≤ largest
      → m ≡ min (fills_with load.fills f) largest → n ≡ orders_for load.orders k → place ≡ row_place ss rows f → step ≡ in_step ss rows f
      → ◌≡◌ {A = Booking} (record { load = record { fills = m; orders = n; entries = load.entries }; row = place; stepped = step }) (booking_of ss rows load f)
  unfolding booking_of
  booking-by m n place step h le em en ep es =
      let eo = en ∙ ap (λ (b : Bool). min (orders_with b load.orders) largest) there-by in
      let ee : load.entries ≡ min load.entries largest = omega arith in
      let el = ap stopped (load-as f h ss rows load) in
      let er = ap (λ (b : Bool). cond b 0 (row_place ss rows f)) h in
      let eb = ap (λ (b : Bool). not b && in_step ss rows f) h in
      cc

-- with room the counts are as they stand
pub booking-load : (ss : List Slot) (rows : List Row) (load : Load) (s : Slot) → load.fills ≤ largest → load.orders ≤ largest → load.entries ≤ largest → has_room ss rows load s ≡ true
    → (booking_of ss rows load s).load ≡ load_with ss rows load s
unfolding booking_of
booking-load ss rows load s lf lo le r =
    let room = has_room_lem ss rows load s r in
    ⊎_elim
    (λ h. (let n = room.few-entries h in
    let ef : min load.fills largest ≡ load.fills = omega arith in
    let eo : min load.orders largest ≡ load.orders = omega arith in
    let ee : min (load.entries + 1) largest ≡ load.entries + 1 = omega arith in
    let el = load-as s h ss rows load in
    ap stopped el ∙ loads ef eo ee ∙ sym el))
    (λ h. (let n = room.few-fills h in
    let ef : min (fills_with load.fills s) largest ≡ fills_with load.fills s =
    of-cond (λ (n : ℕ). min n largest ≡ n) (is_fill s) (λ e. omega arith) (λ e. omega arith) in
    let eo = min-eq_left
    (⊎_elim
    (λ k. subst (λ (x : ℕ). x ≤ largest) (sym (cond-true (is_known ss rows s) load.orders (load.orders + 1) k)) lo)
    (λ k. (let b = ltb-true load.orders most_orders k in
    of-cond (λ (x : ℕ). x ≤ largest) (is_known ss rows s) (λ e. lo) (λ e. omega arith)))
    (or_cases (is_known ss rows s) (ltb load.orders most_orders) (room.order-left h))) in
    let ee : min load.entries largest ≡ load.entries = omega arith in
    let el = load-as s h ss rows load in
    ap stopped el ∙ loads ef eo ee ∙ sym el))
    (bool_case (is_entry s))

-- ---- placement, from what was found for the ExecID, and for the order where there is no such fill
module _ (ss : List Slot) (rows : List Row) (f : Slot) (h : is_entry f ≡ false) where
  by-exec : {o : Option Slot} → find_last (same_exec f) ss ≡ o → place ss rows f ≡ by_exec f (first_for ss rows f) o
  unfolding place_fill
  by-exec e = place-as f h ss rows ∙ ap (by_exec f (first_for ss rows f)) e

  pub placed-new : (known : Slot) (r : Placed) → find_last (same_exec f) ss ≡ none → some_slot known ≡ first_for ss rows f → r ≡ by_order f (some_slot known) → place ss rows f ≡ r
  unfolding by_exec
  placed-new known r e ek er = by-exec e ∙ ap (by_order f) (sym ek) ∙ sym er

  pub placed-already : (k : Slot) → find_last (same_exec f) ss ≡ some k → same_contents f k ≡ true → place ss rows f ≡ Already
  unfolding by_exec
  placed-already k e c = by-exec e ∙ cond-true (same_contents f k) Already (Clash (fault wrong_value 17)) c

  pub placed-clash : (k : Slot) → find_last (same_exec f) ss ≡ some k → same_contents f k ≡ false → place ss rows f ≡ Clash (fault wrong_value 17)
  unfolding by_exec
  placed-clash k e c = by-exec e ∙ cond-false (same_contents f k) Already (Clash (fault wrong_value 17)) c

-- ---- what becomes of a slot
module _ (ss : List Slot) (rows : List Row) (load : Load) (s : Slot) where
  pub admit-is : admit_of ss rows load s ≡ admit_by ss rows load s (place ss rows s)
  unfolding admit_of
  admit-is = refl

  -- from where it is placed and whether there is room
  pub admit-clash : {g : Fault} → place ss rows s ≡ Clash g → admit_of ss rows load s ≡ admitted.Clash g
  admit-clash e = admit-is ∙ ap (admit_by ss rows load s) e

  pub admit-already : place ss rows s ≡ Already → admit_of ss rows load s ≡ admitted.Already
  admit-already e = admit-is ∙ ap (admit_by ss rows load s) e

  pub admit-full : place ss rows s ≡ New → has_room ss rows load s ≡ false → admit_of ss rows load s ≡ admitted.Full
  admit-full e h = admit-is ∙ ap (admit_by ss rows load s) e ∙ cond-false (has_room ss rows load s) (admitted.New (booking_of ss rows load s)) admitted.Full h

  pub admit-new : place ss rows s ≡ New → has_room ss rows load s ≡ true → admit_of ss rows load s ≡ admitted.New (booking_of ss rows load s)
  admit-new e h = admit-is ∙ ap (admit_by ss rows load s) e ∙ cond-true (has_room ss rows load s) (admitted.New (booking_of ss rows load s)) admitted.Full h

  -- and back
  by-clash : (p : Placed) {g : Fault} → admit_by ss rows load s p ≡ admitted.Clash g → p ≡ Clash g
  by-clash (Clash h) e = cc
  by-clash Already e = cc
  by-clash New {g} e = of-cond (λ (a : Admitted). a ≡ admitted.Clash g → New ≡ Clash g) (has_room ss rows load s) (λ h x. cc) (λ h x. cc) e

  by-already : (p : Placed) → admit_by ss rows load s p ≡ admitted.Already → p ≡ Already
  by-already (Clash h) e = cc
  by-already Already e = refl
  by-already New e = of-cond (λ (a : Admitted). a ≡ admitted.Already → New ≡ Already) (has_room ss rows load s) (λ h x. cc) (λ h x. cc) e

  by-full : (p : Placed) → admit_by ss rows load s p ≡ admitted.Full → (p ≡ New) × (has_room ss rows load s ≡ false)
  by-full (Clash h) e = (cc, cc)
  by-full Already e = (cc, cc)
  by-full New e = of-cond (λ (a : Admitted). a ≡ admitted.Full → (New ≡ New) × (has_room ss rows load s ≡ false)) (has_room ss rows load s) (λ h x. (refl, cc)) (λ h x. (refl, h)) e

  by-new : (p : Placed) {b : Booking} → admit_by ss rows load s p ≡ admitted.New b → (p ≡ New) × (has_room ss rows load s ≡ true) × (b ≡ booking_of ss rows load s)
  by-new (Clash h) e = (cc, cc, cc)
  by-new Already e = (cc, cc, cc)
  by-new New {b} e =
      of-cond (λ (a : Admitted). a ≡ admitted.New b → (New ≡ New) × (has_room ss rows load s ≡ true) × (b ≡ booking_of ss rows load s)) (has_room ss rows load s)
      (λ h x. (refl, h, cc)) (λ h x. (refl, cc, cc)) e

  pub admitted-clash : {g : Fault} → admit_of ss rows load s ≡ admitted.Clash g → place ss rows s ≡ Clash g
  admitted-clash e = by-clash (place ss rows s) (sym admit-is ∙ e)

  pub admitted-already : admit_of ss rows load s ≡ admitted.Already → place ss rows s ≡ Already
  admitted-already e = by-already (place ss rows s) (sym admit-is ∙ e)

  pub admitted-full : admit_of ss rows load s ≡ admitted.Full → (place ss rows s ≡ New) × (has_room ss rows load s ≡ false)
  admitted-full e = by-full (place ss rows s) (sym admit-is ∙ e)

  pub admitted-new : {b : Booking} → admit_of ss rows load s ≡ admitted.New b → (place ss rows s ≡ New) × (has_room ss rows load s ≡ true) × (b ≡ booking_of ss rows load s)
  admitted-new e = by-new (place ss rows s) (sym admit-is ∙ e)
