-- An entry changes nothing of the day's fills and orders, and nothing of what becomes of a report that comes after it.
--     apart     the fills and orders
--     later     the reports, in every world
use Prim.Native.Nat.{ℕ, ◌+◌, ◌<◌}
use mathlib.Core.Path.{◌≡◌, refl, sym, ap, ap₂, ◌∙◌}
use mathlib.Core.List.{List, [], ◌∷◌, ◌++◌}
use mathlib.Core.Option.{Option}
use mathlib.Core.Bool.{Bool, true, false, cond, ◌&&◌, ◌||◌}
use native.Mathlib.Omega.{arith}
use lib.ListN.{length, length-append}
use lib.Dec.{ltb}
use borrow.Author.Tests.{lt-ltb, ltb-true}
use Rattle.octet.proofs.Cases.{cond-false, and_both}
use Rattle.field.specs.Pieces.{Pieces}
use Rattle.field.specs.Look.{look_of}
use Rattle.answer.specs.Numbers.{counted}
use Rattle.answer.specs.declared.Setup.{Setup}
use Rattle.answer.specs.declared.Outcome.TheVariants as outcome
use Rattle.answer.specs.declared.Refusal.TheVariants as refusal
use Rattle.fill.specs.Slot.{Slot, is_fill, is_entry, shares_of}
use Rattle.book.specs.Memory.{most_slots}
use Rattle.book.specs.Place.{most_fills, most_orders, place_fill, fill_room}
use Rattle.book.specs.Rows.{Row, first_for, is_known, more_of, rows_with, day_with}
use Rattle.book.specs.Admitting.{place, has_room, in_step, load_with, with_entry}
use Rattle.book.specs.declared.Load.{Load}
use Rattle.book.specs.declared.Placed.{Placed}
use Rattle.book.specs.declared.Placed.TheVariants as placed
use Rattle.book.proofs.ByKind.{entry-no-fill, place-as, room_as, load-as}
use Rattle.book.proofs.Placing.{has_room_lem}
use Rattle.book.proofs.Orders.{orders-still}
use Rattle.book.proofs.Counts.{fills-still}
use Rattle.book.proofs.Apart.{find-exec-apart, find-order-apart, sum-order-apart, place-fill-apart, known-apart, first-apart, step-apart}
use Rattle.note.specs.Kept.{after}
use Rattle.note.proofs.Keeping.{Sound, slots-split}
use Rattle.session.specs.Session.{expecting}
use Rattle.session.specs.Judging.{judge, rejected, passed}
use Rattle.session.specs.declared.Session.{Session}
use Rattle.receiver.specs.State.{State, session_of}
use Rattle.receiver.specs.Calls.{Keep, Refuse, Say, This, brought_by, brings_of, with_room, placed_as, becomes, booked_as, with_slot}
use Rattle.promise.specs.World.{Step, world}
use Rattle.promise.specs.Entering.{Apart, after_hearing, Later}
use Rattle.promise.proofs.Good.{good, safe-live}

rows-kept : (ss : List Slot) (rows : List Row) (e : Slot) → is_fill e ≡ false → rows_with ss rows e ≡ rows
unfolding rows_with
rows-kept ss rows e h = cond-false (is_fill e) (more_of ss rows e) rows h

day-kept : (day : ℕ) (e : Slot) → is_fill e ≡ false → day_with day e ≡ day
unfolding day_with
day-kept day e h = cond-false (is_fill e) (counted day (shares_of e)) day h

pub apart : (ss : List Slot) (e : Slot) → is_entry e ≡ true → Apart ss e
apart ss e is =
    let not-fill = entry-no-fill e is in
    record {
      known = λ f. find-exec-apart e not-fill ss f;
      order = λ f. find-order-apart e not-fill ss f;
      sum = λ f. sum-order-apart e not-fill ss f;
      placed = λ rows f. place-fill-apart e not-fill ss f (first_for (ss ++ (e ∷ [])) rows f) ∙ ap (λ (o : Option Slot). place_fill ss o f) (first-apart e not-fill ss f rows);
      stepped = λ rows f. step-apart e not-fill ss f rows;
      rows = λ rows. rows-kept ss rows e not-fill;
      day = λ day. day-kept day e not-fill;
      orders = orders-still ss e not-fill;
      fills = fills-still ss e not-fill;
    }

-- ---- a report after it

-- two states with one session, and room in both or in neither, decide alike of a slot that is placed alike
placed_alike : (a b : State) (n : ℕ) (f : Slot) (p : Placed) → session_of a ≡ session_of b
    → has_room a.kept.slots a.kept.rows a.kept.load f ≡ has_room b.kept.slots b.kept.rows b.kept.load f → placed_as a n f p ≡ placed_as b n f p
unfolding placed_as with_room
placed_alike a b n f placed.New same room = ap (λ (r : Bool). cond r (Keep f) (Refuse refusal.NoRoom)) room
placed_alike a b n f placed.Already same room = ap (λ (s : Session). Say (passed outcome.Already s)) same
placed_alike a b n f (placed.Clash g) same room = ap (λ (s : Session). Say (rejected s n g)) same

either : (a b c : Bool) → (c ≡ true → a ≡ true) → (c ≡ true → b ≡ true) → a && c ≡ b && c
either a b true h k = ap (λ (x : Bool). x && true) (h refl ∙ sym (k refl))
either true true false h k = refl
either true false false h k = refl
either false true false h k = refl
either false false false h k = refl

module _ (st : State) (sound : Sound st.kept) (e : Slot) (is : is_entry e ≡ true) (has : has_room st.kept.slots st.kept.rows st.kept.load e ≡ true) where
  abbrev ss : List Slot
  ss = st.kept.slots

  abbrev rows : List Row
  rows = st.kept.rows

  abbrev load : Load
  load = st.kept.load

  longer : length (ss ++ (e ∷ [])) ≡ length ss + 1
  longer = length-append ss (e ∷ [])

  -- E is far below the number at which a count stops
  session-same : session_of (with_slot st e) ≡ session_of (after_hearing st)
  unfolding after
  session-same =
      let low = sound.expected in
      let raised-one : st.kept.e + 1 ≡ counted st.kept.e 1 = omega arith in
      ap (λ (n : ℕ). expecting n (session_of st)) raised-one

  brings-same : (setup : Setup) (ps : Pieces) → brings_of setup (with_slot st e) ps ≡ brings_of setup (after_hearing st) ps
  unfolding brings_of
  brings-same setup ps = ap (λ (s : Session). brought_by s (look_of ps) (judge setup s ps)) session-same

  -- where fills have room there is a slot for one more, with the entry as without it
  module _ (f : Slot) (other : is_entry f ≡ false) where
    slot-left : fill_room (is_known ss rows f) load.fills load.orders ≡ true → length ss + 1 < most_slots
    slot-left t =
        let fills = ltb-true load.fills most_fills (and_both (ltb load.fills most_fills) (is_known ss rows f || ltb load.orders most_orders) t).0 in
        let entries = (has_room_lem ss rows load e has).few-entries is in
        omega (arith, slots-split st.kept sound)

    room-same : has_room (ss ++ (e ∷ [])) (rows_with ss rows e) (load_with ss rows load e) f ≡ has_room ss rows load f
    room-same =
        let room : Bool = fill_room (is_known ss rows f) load.fills load.orders in
        ap₂ (λ (x : List Row) (l : Load). has_room (ss ++ (e ∷ [])) x l f) (rows-kept ss rows e (entry-no-fill e is)) (load-as e is ss rows load)
        ∙ room_as f other (ss ++ (e ∷ [])) rows (with_entry load)
        ∙ ap₂ (λ (n : ℕ) (b : Bool). ltb n most_slots && fill_room b load.fills load.orders) longer (known-apart e (entry-no-fill e is) ss f rows)
        ∙ either (ltb (length ss + 1) most_slots) (ltb (length ss) most_slots) room
        (λ t. lt-ltb (length ss + 1) most_slots (slot-left t))
        (λ t. lt-ltb (length ss) most_slots (let l = slot-left t in omega arith))
        ∙ sym (room_as f other ss rows load)

    place_same : place (ss ++ (e ∷ [])) (rows_with ss rows e) f ≡ place ss rows f
    place_same =
        ap (λ (x : List Row). place (ss ++ (e ∷ [])) x f) (rows-kept ss rows e (entry-no-fill e is))
        ∙ place-as f other (ss ++ (e ∷ [])) rows
        ∙ (apart ss e is).placed rows f
        ∙ sym (place-as f other ss rows)

    becomes-same : (n : ℕ) → becomes (with_slot st e) (This n f) ≡ becomes (after_hearing st) (This n f)
    unfolding becomes after
    becomes-same n =
        ap (placed_as (with_slot st e) n f) place_same
        ∙ placed_alike (with_slot st e) (after_hearing st) n f (place ss rows f) session-same room-same

    booked_after : booked_as (after_hearing st) f ≡ outcome.Booked (length ss + 1) (in_step ss rows f)
    booked_after = cond-false (is_entry f) (outcome.Entered (length ss + 1)) (outcome.Booked (length ss + 1) (in_step ss rows f)) other

    booked-later : booked_as (with_slot st e) f ≡ outcome.Booked (length ss + 2) (in_step ss rows f)
    unfolding after
    booked-later =
        let two : length (ss ++ (e ∷ [])) + 1 ≡ length ss + 2 = omega (arith, longer) in
        cond-false (is_entry f) _ _ other ∙ ap₂ outcome.Booked two
        (ap (λ (x : List Row). in_step (ss ++ (e ∷ [])) x f) (rows-kept ss rows e (entry-no-fill e is)) ∙ step-apart e (entry-no-fill e is) ss f rows)

-- in every world, of an entry that has room
pub later : (steps : List Step) (e : Slot) → is_entry e ≡ true → has_room (world steps).live.kept.slots (world steps).live.kept.rows (world steps).live.kept.load e ≡ true → Later (world steps).live e
later steps e is has =
    let st : State = (world steps).live in
    let sound = (safe-live (world steps) (good steps)).sound in
    record {
      brings = brings-same st sound e is has;
      becomes' = λ n f other. becomes-same st sound e is has f other n;
      answered = λ f other. (booked_after st sound e is has f other, booked-later st sound e is has f other);
    }
