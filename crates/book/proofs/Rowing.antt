-- The row of an order among the rows, and the rows with one of them changed.
--     before-.., found-..     how many stand before the first that passes, and what stands there
--     row-empty     a row of no bytes is no order's
--     numbered-..     the slot of a number, with one slot more
--     first_found, booked-found, known-found     what is known of an order, from what stands at its row's place
--     first-set, first-none     the first that passes changed is one set at its place, or none
--     known_is     an order is known exactly where its first fill is
--     rows-unknown     an order that has no fill has no row
use mathlib.Core.Path.{◌≡◌, refl, sym, ap, ◌∙◌}
use mathlib.Core.Logic.{◌⊎◌, inl, inr, ⊎_elim}
use mathlib.Core.List.{List, [], ◌∷◌, ◌++◌}
use mathlib.Core.Option.{Option, none, some}
use mathlib.Core.Bool.{Bool, true, false, not}
use Prim.Native.Nat.{ℕ, zero, suc, ◌+◌, ◌≤◌, ◌<◌}
use native.Mathlib.Omega.{arith}
use native.Mathlib.Numerals.{add-one}
use lib.ListN.{length, get_or, drop, set, length-append, get_or-eq_default, get_or-append}
use lib.Seq.{get_or-append_seam}
use Rattle.octet.specs.Maybe.{find, is_none}
use Rattle.octet.specs.Places.{number_in}
use Rattle.octet.proofs.Cases.{true-not-false, bool_case, contrary, cond-true, cond-false, of-cond, le-or-lt, find-here, find-later, find-passes}
use Rattle.fill.specs.Slot.{Slot}
use Rattle.book.specs.Place.{same_order}
use Rattle.book.specs.Rows.{Row, first_in, booked_in, numbered, head_of, is_row_of, row_for, before, row_place, head_by, booked_by, first_for, booked_for, is_known, on_first}
use Rattle.book.specs.Seeing.{some_slot}
use Rattle.book.proofs.Finds.{order-empty}

lt-or-le : (a b : ℕ) → (a < b) ⊎ (b ≤ a)
lt-or-le a b = ⊎_elim (λ h. inr h) (λ h. inl h) (le-or-lt b a)

-- ---- before the first that passes
module _ {A : Type 0} (p : A → Bool) where
  pub before_here : (x : A) (xs : List A) → p x ≡ true → before p (x ∷ xs) ≡ 0
  before_here x xs h = cond-true (p x) 0 (suc (before p xs)) h

  pub before-later : (x : A) (xs : List A) → p x ≡ false → before p (x ∷ xs) ≡ suc (before p xs)
  before-later x xs h = cond-false (p x) 0 (suc (before p xs)) h

  pub before-most : (xs : List A) → before p xs ≤ length xs
  before-most [] = omega arith
  before-most (x ∷ xs) = of-cond (λ (n : ℕ). n ≤ suc (length xs)) (p x) (λ h. omega arith) (λ h. omega (arith, before-most xs))

  -- a turn of a search: at place i it is here, or it is later
  pub before-stop : (i : ℕ) (x : A) (xs rest : List A) → drop i xs ≡ x ∷ rest → p x ≡ true → i + before p (drop i xs) ≡ before p xs → i ≡ before p xs
  before-stop i x xs rest e h so = omega (arith, ap (before p) e ∙ before_here x rest h)

  pub before_on : (i : ℕ) (x : A) (xs rest : List A) → drop i xs ≡ x ∷ rest → p x ≡ false → i + before p (drop i xs) ≡ before p xs → i + 1 + before p rest ≡ before p xs
  before_on i x xs rest e h so = omega (arith, ap (before p) e ∙ before-later x rest h)

  -- what stands there, and what a search finds
  pub found-there : (d : A) (xs : List A) → before p xs < length xs → find p xs ≡ some (get_or xs (before p xs) d)
  found-there d [] h = absurd (omega arith)
  found-there d (x ∷ xs) h =
      ⊎_elim
      (λ e. find-here p x xs e ∙ ap (λ (n : ℕ). some (get_or (x ∷ xs) n d)) (sym (before_here x xs e)))
      (λ e. (let b = before-later x xs e in
      find-later p x xs e ∙ found-there d xs (omega arith) ∙ ap (λ (n : ℕ). some (get_or (x ∷ xs) n d)) (sym b)))
      (bool_case (p x))

  pub found_none : (xs : List A) → length xs ≤ before p xs → find p xs ≡ none
  found_none [] h = refl
  found_none (x ∷ xs) h =
      ⊎_elim
      (λ e. absurd (omega (arith, before_here x xs e)))
      (λ e. find-later p x xs e ∙ found_none xs (omega (arith, before-later x xs e)))
      (bool_case (p x))

-- ---- a row of no bytes is no order's
pub first-empty : first_in [] ≡ 0
unfolding number_in
first-empty = refl

pub booked-empty : booked_in [] ≡ 0
unfolding number_in
booked-empty = refl

pub head-empty : (ss : List Slot) → head_of ss [] ≡ []
head-empty ss = ap (λ (n : ℕ). numbered n ss) first-empty

pub row-empty : (ss : List Slot) (f : Slot) → is_row_of ss f [] ≡ false
row-empty ss f = ap (same_order f) (head-empty ss) ∙ order-empty f

-- no order has a slot of no bytes
order-some : (f s : Slot) → same_order f s ≡ true → some_slot s ≡ some s
order-some f [] h = contrary h (order-empty f)
order-some f (b ∷ s) h = refl

-- ---- the slot of a number, with one slot more
pub numbered_more : (n : ℕ) (ss : List Slot) (s : Slot) → n ≤ length ss → numbered n (ss ++ (s ∷ [])) ≡ numbered n ss
numbered_more zero ss s h = refl
numbered_more (suc i) ss s h = get_or-append ss (s ∷ []) [] i (omega arith)

pub numbered-past : (n : ℕ) (ss : List Slot) → length ss < n → numbered n ss ≡ []
numbered-past zero ss h = absurd (omega arith)
numbered-past (suc i) ss h = get_or-eq_default ss [] (omega arith)

pub numbered-last : (ss : List Slot) (s : Slot) → numbered (length ss + 1) (ss ++ (s ∷ [])) ≡ s
numbered-last ss s = ap (λ (n : ℕ). numbered n (ss ++ (s ∷ []))) (add-one (length ss)) ∙ get_or-append_seam ss s [] []

pub numbered-end : (n : ℕ) (ss : List Slot) (s : Slot) → length ss < n → (numbered n (ss ++ (s ∷ [])) ≡ s) ⊎ (numbered n (ss ++ (s ∷ [])) ≡ [])
numbered-end n ss s h =
    ⊎_elim
    (λ l. (let e : n ≡ length ss + 1 = omega arith in inl (ap (λ (k : ℕ). numbered k (ss ++ (s ∷ []))) e ∙ numbered-last ss s)))
    (λ l. inr (numbered-past n (ss ++ (s ∷ [])) (omega (arith, length-append ss (s ∷ [])))))
    (le-or-lt n (length ss + 1))

-- a fill of an order is one of the slots
pub numbered-there : (f : Slot) (n : ℕ) (ss : List Slot) → same_order f (numbered n ss) ≡ true → n ≤ length ss
numbered-there f n ss h =
    ⊎_elim (λ l. l) (λ l. contrary h (ap (same_order f) (numbered-past n ss l) ∙ order-empty f)) (le-or-lt n (length ss))

-- ---- what is known of an order, from what stands at its row's place
module _ (ss : List Slot) (rows : List Row) (f : Slot) where
  abbrev at_place : Row
  at_place = get_or rows (row_place ss rows f) []

  found-row : (o : Option Row) → row_for ss rows f ≡ o → (some_slot (head_of ss at_place) ≡ head_by ss o) × (booked_in at_place ≡ booked_by o)
  unfolding row_for row_place
  found-row o e =
      ⊎_elim
      (λ h. (let g : find (is_row_of ss f) rows ≡ some at_place = found-there (is_row_of ss f) [] rows h in
      let passes : is_row_of ss f at_place ≡ true = find-passes (is_row_of ss f) rows at_place g in
      let eo : some at_place ≡ o = sym g ∙ e in
      (order-some f (head_of ss at_place) passes ∙ ap (head_by ss) eo, ap booked_by eo)))
      (λ h. (let g : find (is_row_of ss f) rows ≡ none = found_none (is_row_of ss f) rows h in
      let eo : none ≡ o = sym g ∙ e in
      let past : at_place ≡ [] = get_or-eq_default rows [] h in
      (ap some_slot (ap (head_of ss) past ∙ head-empty ss) ∙ ap (head_by ss) eo, ap booked_in past ∙ booked-empty ∙ ap booked_by eo)))
      (lt-or-le (before (is_row_of ss f) rows) (length rows))

  pub first_found : some_slot (head_of ss at_place) ≡ first_for ss rows f
  unfolding first_for
  first_found = (found-row (row_for ss rows f) refl).0

  pub booked-found : booked_in at_place ≡ booked_for ss rows f
  unfolding booked_for
  booked-found = (found-row (row_for ss rows f) refl).1

  pub known_is : not (is_none (first_for ss rows f)) ≡ is_known ss rows f
  unfolding first_for is_known
  known_is = by (row_for ss rows f)
    where
      by : (o : Option Row) → not (is_none (head_by ss o)) ≡ not (is_none o)
      by none = refl
      by (some r) = refl

  -- it is known exactly where its place is one of theirs
  pub known-place : is_known ss rows f ≡ true → row_place ss rows f < length rows
  unfolding is_known row_for row_place
  known-place h =
      ⊎_elim
      (λ l. l)
      (λ l. contrary h (ap (λ (o : Option Row). not (is_none o)) (found_none (is_row_of ss f) rows l)))
      (lt-or-le (before (is_row_of ss f) rows) (length rows))

  pub unknown-place : is_known ss rows f ≡ false → row_place ss rows f ≡ length rows
  unfolding is_known row_for row_place
  unknown-place h =
      ⊎_elim
      (λ l. contrary (ap (λ (o : Option Row). not (is_none o)) (found-there (is_row_of ss f) [] rows l)) h)
      (λ l. omega (arith, before-most (is_row_of ss f) rows))
      (lt-or-le (before (is_row_of ss f) rows) (length rows))

-- ---- the first that passes, changed
module _ (p : Row → Bool) (g : Row → Row) where
  pub first-set : (rows : List Row) → before p rows < length rows → on_first p g rows ≡ set rows (before p rows) (g (get_or rows (before p rows) []))
  first-set [] h = refl
  first-set (r ∷ rows) h =
      ⊎_elim
      (λ e. cond-true (p r) (g r ∷ rows) (r ∷ on_first p g rows) e
      ∙ ap (λ (n : ℕ). set (r ∷ rows) n (g (get_or (r ∷ rows) n []))) (sym (before_here p r rows e)))
      (λ e. (let b = before-later p r rows e in
      cond-false (p r) (g r ∷ rows) (r ∷ on_first p g rows) e
      ∙ ap (λ (l : List Row). r ∷ l) (first-set rows (omega arith))
      ∙ ap (λ (n : ℕ). set (r ∷ rows) n (g (get_or (r ∷ rows) n []))) (sym b)))
      (bool_case (p r))

  pub first-none : (rows : List Row) → length rows ≤ before p rows → on_first p g rows ≡ rows
  first-none [] h = refl
  first-none (r ∷ rows) h =
      ⊎_elim
      (λ e. absurd (omega (arith, before_here p r rows e)))
      (λ e. cond-false (p r) (g r ∷ rows) (r ∷ on_first p g rows) e ∙ ap (λ (l : List Row). r ∷ l) (first-none rows (omega (arith, before-later p r rows e))))
      (bool_case (p r))

-- ---- an order that has no fill among the slots has no row: a row's order has its first fill among them
module _ (f : Slot) where
  none-there : (ss : List Slot) (i : ℕ) → find (same_order f) ss ≡ none → same_order f (get_or ss i []) ≡ false
  none-there [] i h = order-empty f
  none-there (s ∷ ss) zero h = ⊎_elim (λ e. true-not-false (sym (ap is_none (sym (find-here (same_order f) s ss e) ∙ h)))) (λ e. e) (bool_case (same_order f s))
  none-there (s ∷ ss) (suc i) h =
      ⊎_elim
      (λ e. true-not-false (sym (ap is_none (sym (find-here (same_order f) s ss e) ∙ h))))
      (λ e. none-there ss i (sym (find-later (same_order f) s ss e) ∙ h))
      (bool_case (same_order f s))

  none-numbered : (ss : List Slot) (k : ℕ) → find (same_order f) ss ≡ none → same_order f (numbered k ss) ≡ false
  none-numbered ss zero h = order-empty f
  none-numbered ss (suc i) h = none-there ss i h

  pub rows-unknown : (ss : List Slot) (rows : List Row) → find (same_order f) ss ≡ none → row_place ss rows f ≡ length rows
  unfolding row_place
  rows-unknown ss [] h = refl
  rows-unknown ss (r ∷ rows) h = before-later (is_row_of ss f) r rows (none-numbered ss (first_in r) h) ∙ ap suc (rows-unknown ss rows h)
