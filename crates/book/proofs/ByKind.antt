-- What is said of any slot, by what it is: of an entry what is said of entries, and of every other what is said of fills.
--     entry-no-fill, fill-no-entry     it is not both
--     twins-as, place-as, room_as, load-as     by whether it is an entry
--     new-last, new-exec, new-key, new-alone     a new slot has no twin
--     loads     a load is its counts
use mathlib.Core.Path.{◌≡◌, refl, sym, ap, ◌∙◌}
use mathlib.Core.Logic.{⊎_elim}
use mathlib.Core.List.{List, [], ◌∷◌}
use mathlib.Core.Option.{Option, none, some}
use mathlib.Core.Bool.{Bool, true, false, cond, ◌&&◌}
use native.Mathlib.Omega.{arith}
use Prim.Native.Nat.{ℕ}
use lib.ListN.{length}
use lib.Dec.{ltb}
use borrow.Author.Tests.{eqb-true, ne_eqb}
use Rattle.octet.specs.Bytes.{same}
use Rattle.octet.specs.Maybe.{find, find_last}
use Rattle.octet.proofs.Cases.{bool_case, contrary, last_none}
use Rattle.answer.specs.Numbers.{fault, wrong_value}
use Rattle.answer.specs.declared.Fault.{Fault}
use Rattle.fill.specs.Slot.{Slot, is_fill, is_entry, mark_of, fill_mark, entry_mark}
use Rattle.book.specs.Place.{same_exec, same_contents, by_exec, place_fill, is_new, fill_room}
use Rattle.book.specs.Rows.{Row, first_for, is_known}
use Rattle.book.specs.Entries.{same_key, by_key, place_entry, entry_room}
use Rattle.book.specs.Memory.{most_slots}
use Rattle.book.specs.Admitting.{twins, place, has_room, with_entry, with_fill, load_with}
use Rattle.book.specs.declared.Load.{Load}
use Rattle.book.specs.declared.Placed.TheVariants.{Clash, Already}

pub entry-no-fill : (s : Slot) → is_entry s ≡ true → is_fill s ≡ false
entry-no-fill s h = let e = eqb-true (mark_of s) entry_mark h in ne_eqb (mark_of s) fill_mark (λ f. omega arith)

pub fill-no-entry : (s : Slot) → is_fill s ≡ true → is_entry s ≡ false
fill-no-entry s h = let e = eqb-true (mark_of s) fill_mark h in ne_eqb (mark_of s) entry_mark (λ f. omega arith)

-- ---- by kind: h says whether it is an entry
module _ (s : Slot) {b : Bool} (h : is_entry s ≡ b) where
  pub twins-as : (t : Slot) → twins s t ≡ cond b (same_key s t) (same_exec s t)
  unfolding twins
  twins-as t = ap (λ (x : Bool). cond x (same_key s t) (same_exec s t)) h

  module _ (ss : List Slot) (rows : List Row) where
    pub place-as : place ss rows s ≡ cond b (place_entry ss s) (place_fill ss (first_for ss rows s) s)
    unfolding place
    place-as = ap (λ (x : Bool). cond x (place_entry ss s) (place_fill ss (first_for ss rows s) s)) h

    pub room_as : (load : Load)
        → has_room ss rows load s ≡ ltb (length ss) most_slots && cond b (entry_room load.entries) (fill_room (is_known ss rows s) load.fills load.orders)
    unfolding has_room
    room_as load = ap (λ (x : Bool). ltb (length ss) most_slots && cond x (entry_room load.entries) (fill_room (is_known ss rows s) load.fills load.orders)) h

    pub load-as : (load : Load) → load_with ss rows load s ≡ cond b (with_entry load) (with_fill (is_known ss rows s) load s)
    unfolding load_with
    load-as load = ap (λ (x : Bool). cond x (with_entry load) (with_fill (is_known ss rows s) load s)) h

-- ---- a new slot has no twin
-- one that was found is already booked, or at odds with what comes
found-old : (b : Bool) (g : Fault) → is_new (cond b Already (Clash g)) ≡ false
found-old true g = refl
found-old false g = refl

pub new-last : (ss : List Slot) (known : Option Slot) (f : Slot) → is_new (place_fill ss known f) ≡ true → find_last (same_exec f) ss ≡ none
unfolding place_fill by_exec
new-last ss known f h = by (find_last (same_exec f) ss) h
  where
    by : (o : Option Slot) → is_new (by_exec f known o) ≡ true → o ≡ none
    by none e = refl
    by (some k) e = contrary e (found-old (same_contents f k) (fault wrong_value 17))

pub new-exec : (ss : List Slot) (known : Option Slot) (f : Slot) → is_new (place_fill ss known f) ≡ true → find (same_exec f) ss ≡ none
new-exec ss known f h = last_none (same_exec f) ss (new-last ss known f h)

pub new-key : (ss : List Slot) (e : Slot) → is_new (place_entry ss e) ≡ true → find (same_key e) ss ≡ none
unfolding place_entry by_key
new-key ss e h = by (find (same_key e) ss) h
  where
    by : (o : Option Slot) → is_new (by_key e o) ≡ true → o ≡ none
    by none n = refl
    by (some k) n = contrary n (found-old (same e k) (fault wrong_value 20))

-- two tests that say the same find the same
pub find-alike : {A : Type 0} (p q : A → Bool) → ((t : A) → p t ≡ q t) → (ss : List A) → find p ss ≡ find q ss
find-alike p q h [] = refl
find-alike p q h (s ∷ ss) = rw (h s, find-alike p q h ss)

pub new-alone : (ss : List Slot) (rows : List Row) (s : Slot) → is_new (place ss rows s) ≡ true → find (twins s) ss ≡ none
new-alone ss rows s n =
    ⊎_elim
    (λ h. find-alike (twins s) (same_key s) (twins-as s h) ss ∙ new-key ss s (sym (ap is_new (place-as s h ss rows)) ∙ n))
    (λ h. find-alike (twins s) (same_exec s) (twins-as s h) ss ∙ new-exec ss (first_for ss rows s) s (sym (ap is_new (place-as s h ss rows)) ∙ n))
    (bool_case (is_entry s))

-- ---- a load is its counts
pub loads : {a b c a' b' c' : ℕ} → a ≡ a' → b ≡ b' → c ≡ c'
    → ◌≡◌ {A = Load} (record { fills = a; orders = b; entries = c }) (record { fills = a'; orders = b'; entries = c' })
loads ea eb ec = cc
