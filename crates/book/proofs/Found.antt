-- What a search over slots found, by a test that says of each slot what p does.
--     from_more     one place more, before those that are behind
--     none-last, here-last, last-front     the last that passes, from what is so of each place
--     last-told, last-found, first-found     what stands where a search ended
--     seen-none, seen-here, seen-front     what a walk for a fill has seen
use mathlib.Core.Path.{◌≡◌, refl, sym, ap, subst, ◌∙◌}
use mathlib.Core.List.{List, ◌++◌}
use mathlib.Core.Option.{Option, none, some}
use mathlib.Core.Bool.{Bool, true, false, ◌&&◌, ◌||◌}
use mathlib.Core.Logic.{⊎_elim}
use Prim.Native.Nat.{ℕ, zero, suc, ◌+◌, ◌-◌, ◌*◌, ◌≤◌, ◌<◌}
use native.Mathlib.Omega.{arith}
use lib.ListN.{drop}
use Rattle.std.specs.Prelude.{Some, None}
use Rattle.std.specs.declared.option.Option as answered
use Rattle.octet.specs.Bytes.{same}
use Rattle.octet.specs.Maybe.{find, find_last, or_else}
use Rattle.octet.proofs.Cases.{true-not-false, le-or-lt, and-make, and_left, and-no-right, or-neither, find-here, find-later, last-append, last-only, last-other, last-drop, last_none}
use Rattle.fill.specs.Slot.{Slot, slot_width, is_fill, exec_of, order_of}
use Rattle.book.specs.Memory.{cells, cell_at}
use Rattle.book.specs.Place.{same_exec, same_order}
use Rattle.book.specs.Seeing.{found_at, IsFirst, IsLast, FindsFirst, FindsLast, is_exec, Sees}
use Rattle.book.proofs.Cells.{cells-first, cells-next, cells-last, cells-drop, cells-around}

pub from_more : (P : ℕ → Type 0) (n i j : ℕ) → j ≡ i + 1 → P i → ((k : ℕ) → j ≤ k → k < n → P k) → (k : ℕ) → i ≤ k → k < n → P k
from_more P n i j e here behind k l h = ⊎_elim (λ x. behind k x h) (λ x. (let q : i ≡ k = omega arith in subst P q here)) (le-or-lt j k)

module _ (p : Slot → Bool) (m : List ℕ) (n : ℕ) where
  -- the slots from i on
  abbrev pub rest : ℕ → List Slot
  rest i = cells slot_width (n - i) (drop (i * slot_width) m)

  -- counted down from the end
  none_from : (d i : ℕ) → n ≤ i + d → ((k : ℕ) → i ≤ k → k < n → p (cell_at slot_width k m) ≡ false) → find_last p (rest i) ≡ none
  none_from zero i e h = ap (find_last p) (cells-last slot_width n i (drop (i * slot_width) m) (omega arith))
  none_from (suc d) i e h =
      ⊎_elim
      (λ x. ap (find_last p) (cells-last slot_width n i (drop (i * slot_width) m) x))
      (λ x. ap (find_last p) (cells-next slot_width n i m x)
      ∙ last-other p (cell_at slot_width i m) (rest (i + 1)) (h i (omega arith) x)
      ∙ none_from d (i + 1) (omega arith) (λ k l. h k (omega arith)))
      (le-or-lt n i)

  pub none-behind : (i : ℕ) → ((k : ℕ) → i ≤ k → k < n → p (cell_at slot_width k m) ≡ false) → find_last p (rest i) ≡ none
  none-behind i h = none_from n i (omega arith) h

  pub none-last : ((k : ℕ) → k < n → p (cell_at slot_width k m) ≡ false) → find_last p (cells slot_width n m) ≡ none
  none-last h = ap (find_last p) (cells-first slot_width n m) ∙ none-behind 0 (λ k l. h k)

  pub here-last : (i : ℕ) → i < n → p (cell_at slot_width i m) ≡ true → ((k : ℕ) → i < k → k < n → p (cell_at slot_width k m) ≡ false)
      → find_last p (cells slot_width n m) ≡ some (cell_at slot_width i m)
  here-last i l e h =
      last-drop p i (cells slot_width n m) (cell_at slot_width i m)
      (ap (find_last p) (cells-drop slot_width n i m ∙ cells-next slot_width n i m l)
      ∙ last-only p (cell_at slot_width i m) (rest (i + 1)) e (none-behind (i + 1) (λ k b. h k (omega arith))))

  -- from the first on, none of the i before passing
  first_from : (i : ℕ) → i ≤ n → ((k : ℕ) → k < i → p (cell_at slot_width k m) ≡ false) → find p (cells slot_width n m) ≡ find p (rest i)
  first_from zero l h = ap (find p) (cells-first slot_width n m)
  first_from (suc i) l h =
      let e : i + 1 ≡ suc i = omega arith in
      first_from i (omega arith) (λ k b. h k (omega arith))
      ∙ ap (find p) (cells-next slot_width n i m (omega arith))
      ∙ find-later p (cell_at slot_width i m) (rest (i + 1)) (h i (omega arith))
      ∙ ap (λ (k : ℕ). find p (rest k)) e

  -- none from i on: what the last is, is found among those before
  pub last-front : (i : ℕ) → i < n → ((k : ℕ) → i ≤ k → k < n → p (cell_at slot_width k m) ≡ false) → find_last p (cells slot_width i m) ≡ find_last p (cells slot_width n m)
  last-front i l h =
      let all = cells-around slot_width n i m l ∙ ap (λ (ss : List Slot). cells slot_width i m ++ ss) (sym (cells-next slot_width n i m l)) in
      sym
      (ap (find_last p) all
      ∙ last-append p (cells slot_width i m) (rest i)
      ∙ ap (λ (o : Option Slot). or_else o (find_last p (cells slot_width i m))) (none-behind i h))

  -- what was said of each is what p does
  abbrev pub Told : answered.Option ℕ → Type 0
  Told r = IsLast (λ s b. b ≡ p s) m n r

  last_is : (r : answered.Option ℕ) → Told r → found_at m r ≡ find_last p (cells slot_width n m)
  last_is None h = sym (none-last (λ k l. sym (h k l)))
  last_is (Some i) h = sym (here-last i h.0 (sym h.1) (λ k a l. sym (h.2 k a l)))

  module _ {Says : Slot → Bool → Type 0} where
    told : (r : answered.Option ℕ) → IsLast Says m n r → ((s : Slot) (b : Bool) → Says s b → b ≡ p s) → Told r
    told None h alike = λ k l. alike _ false (h k l)
    told (Some i) h alike = (h.0, alike _ true h.1, λ k a l. alike _ false (h.2 k a l))

    pub last-told : {r : answered.Option ℕ} → FindsLast Says m n r → ((s : Slot) (b : Bool) → Says s b → b ≡ p s) → Told r
    last-told {r} h alike = told r h.found alike

    pub last-found : {r : answered.Option ℕ} → FindsLast Says m n r → ((s : Slot) (b : Bool) → Says s b → b ≡ p s) → found_at m r ≡ find_last p (cells slot_width n m)
    last-found {r} h alike = last_is r (told r h.found alike)

    first_is : (r : answered.Option ℕ) → IsFirst Says m n r → ((s : Slot) (b : Bool) → Says s b → b ≡ p s) → found_at m r ≡ find p (cells slot_width n m)
    first_is None h alike =
        sym (first_from n (omega arith) (λ k l. sym (alike _ false (h k l))) ∙ ap (find p) (cells-last slot_width n n (drop (n * slot_width) m) (omega arith)))
    first_is (Some i) h alike =
        sym
        (first_from i (omega (arith, h.0)) (λ k l. sym (alike _ false (h.2 k l)))
        ∙ ap (find p) (cells-next slot_width n i m h.0)
        ∙ find-here p (cell_at slot_width i m) (rest (i + 1)) (sym (alike _ true h.1)))

    pub first-found : {r : answered.Option ℕ} → FindsFirst Says m n r → ((s : Slot) (b : Bool) → Says s b → b ≡ p s) → found_at m r ≡ find p (cells slot_width n m)
    first-found {r} h alike = first_is r h.found alike

-- ---- a walk for a fill: the last that has its ExecID or its order's
no_left : (a b d : Bool) → a && (b || d) ≡ false → a && b ≡ false
no_left true b d e = (or-neither b d e).0
no_left false b d e = refl

no_right : (a b d : Bool) → a && (b || d) ≡ false → a && d ≡ false
no_right true b d e = (or-neither b d e).1
no_right false b d e = refl

-- a fill with that ExecID, or with that OrderID
abbrev pub either : List ℕ → List ℕ → Slot → Bool
either x y s = is_fill s && (same x (exec_of s) || same y (order_of s))

module _ (f : Slot) where
  exec-either : (s : Slot) → either (exec_of f) (order_of f) s ≡ false → same_exec f s ≡ false
  unfolding same_exec
  exec-either s e = no_left (is_fill s) (same (exec_of f) (exec_of s)) (same (order_of f) (order_of s)) e

  order-either : (s : Slot) → either (exec_of f) (order_of f) s ≡ false → same_order f s ≡ false
  unfolding same_order
  order-either s e = no_right (is_fill s) (same (exec_of f) (exec_of s)) (same (order_of f) (order_of s)) e

  module _ (m : List ℕ) (n : ℕ) where
    abbrev pub Walked : answered.Option ℕ → Type 0
    Walked r = Told (either (exec_of f) (order_of f)) m n r

    pub by-ids : (x y : List ℕ) (r : answered.Option ℕ) → x ≡ exec_of f → y ≡ order_of f → Told (either x y) m n r → Walked r
    by-ids x y r ex ey h =
        subst (λ (v : List ℕ). Told (either (exec_of f) v) m n r) ey (subst (λ (u : List ℕ). Told (either u y) m n r) ex h)

    pub seen-none : Walked None → Sees m f (cells slot_width n m) (record { exec = None; known = false })
    seen-none h = (
      sym (none-last (same_exec f) m n (λ k l. exec-either (cell_at slot_width k m) (sym (h k l)))),
      λ e. last_none (same_order f) (cells slot_width n m) (none-last (same_order f) m n (λ k l. order-either (cell_at slot_width k m) (sym (h k l)))),
    )

    pub seen-here : (i : ℕ) → Walked (Some i) → same (exec_of f) (exec_of (cell_at slot_width i m)) ≡ true
        → Sees m f (cells slot_width n m) (record { exec = Some i; known = true })
    unfolding same_exec
    seen-here i h e =
        let s = cell_at slot_width i m in
        let fill : is_fill s ≡ true = and_left (is_fill s) (same (exec_of f) (exec_of s) || same (order_of f) (order_of s)) (sym h.1) in (
          sym
              (here-last (same_exec f) m n i h.0 (and-make (is_fill s) (same (exec_of f) (exec_of s)) fill e)
              (λ k a l. exec-either (cell_at slot_width k m) (sym (h.2 k a l)))),
          λ x. true-not-false x,
        )

    pub seen-front : (i : ℕ) (r : answered.Option ℕ) → Walked (Some i) → same (exec_of f) (exec_of (cell_at slot_width i m)) ≡ false
        → found_at m r ≡ find_last (is_exec (exec_of f)) (cells slot_width i m) → Sees m f (cells slot_width n m) (record { exec = r; known = true })
    unfolding same_exec
    seen-front i r h e found =
        let here : same_exec f (cell_at slot_width i m) ≡ false = and-no-right (is_fill (cell_at slot_width i m)) (same (exec_of f) (exec_of (cell_at slot_width i m))) e in
        let others : (k : ℕ) → i ≤ k → k < n → same_exec f (cell_at slot_width k m) ≡ false
        = from_more (λ k. same_exec f (cell_at slot_width k m) ≡ false) n i (i + 1) refl here (λ k a l. exec-either (cell_at slot_width k m) (sym (h.2 k (omega arith) l))) in
        (found ∙ last-front (same_exec f) m n i h.0 others, λ x. true-not-false x)
