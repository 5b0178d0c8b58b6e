-- Searches over the slots of a region, and what they hand back.
--     find-inside, last-inside     past the end of the region there is nothing to find
--     order_told     a fill of an order, test by test.        order_is, order-by     of the order of a slot
--     known-none, known_some     what a search hands back
use mathlib.Core.Path.{◌≡◌, refl, sym, ap, ◌∙◌}
use mathlib.Core.List.{List, [], ◌∷◌}
use mathlib.Core.Option.{Option, none, some}
use mathlib.Core.Bool.{Bool, false, cond, ◌&&◌}
use mathlib.Core.Logic.{⊎_elim}
use Prim.Native.Nat.{ℕ, zero, suc, ◌*◌, ◌≤◌, min}
use native.Mathlib.Omega.{arith}
use lib.ListN.{length, take, drop, length-drop}
use Rattle.octet.specs.Bytes.{same}
use Rattle.octet.specs.Maybe.{find, find_last, or_else}
use Rattle.octet.proofs.Cases.{le-or-lt, find-later, last-other}
use Rattle.fill.specs.Slot.{Slot, slot_width, is_fill, order_of}
use Rattle.book.specs.Memory.{most_slots, slots_here, cells}
use Rattle.book.specs.Place.{same_exec, same_order}
use Rattle.book.specs.Seeing.{some_slot, is_order}

-- no predicate accepts an empty slot
pub exec-empty : (a : Slot) → same_exec a [] ≡ false
unfolding same_exec
exec-empty a = refl

pub order-empty : (a : Slot) → same_order a [] ≡ false
unfolding same_order
order-empty a = refl

-- ---- what a search hands back
pub known-none : (k : Slot) → length k ≡ 0 → some_slot k ≡ none
known-none [] h = refl
known-none (b ∷ k) h = absurd (omega arith)

pub known_some : (k : Slot) → (length k ≡ 0 → ⊥) → some_slot k ≡ some k
known_some [] h = absurd (h refl)
known_some (b ∷ k) h = refl

-- ---- past the end of the memory
shorter : (k : ℕ) (m : List ℕ) → length m ≤ suc k * slot_width → length (drop slot_width m) ≤ k * slot_width
shorter k m h = omega (arith, length-drop slot_width m)

nothing : (m : List ℕ) → length m ≤ 0 → m ≡ []
nothing [] h = refl
nothing (b ∷ m) h = absurd (omega arith)

-- whatever is read off slots and passes over empty ones
module _ {A : Type 0} (g : List Slot → A) (empty : (ss : List Slot) → g ([] ∷ ss) ≡ g ss)
    (alike : (s : Slot) (xs ys : List Slot) → g xs ≡ g ys → g (s ∷ xs) ≡ g (s ∷ ys)) where
  all-empty : (n : ℕ) → g (cells slot_width n []) ≡ g []
  unfolding cells
  all-empty zero = refl
  all-empty (suc n) = empty (cells slot_width n []) ∙ all-empty n

  past : (k n : ℕ) (m : List ℕ) → length m ≤ k * slot_width → k ≤ n → g (cells slot_width n m) ≡ g (cells slot_width k m)
  unfolding cells
  past zero n m l h = ap (λ (t : List ℕ). g (cells slot_width n t)) (nothing m (omega arith)) ∙ all-empty n
  past (suc k) zero m l h = absurd (omega arith)
  past (suc k) (suc n) m l h = alike (take slot_width m) _ _ (past k n (drop slot_width m) (shorter k m l) (omega arith))

  -- so a book's memory is looked at no further than its slots
  only-inside : (n : ℕ) (m : List ℕ) → length m ≡ slots_here.wide → g (cells slot_width (min n most_slots) m) ≡ g (cells slot_width n m)
  only-inside n m l =
      ⊎_elim
      (λ h. (let e : min n most_slots ≡ n = omega arith in ap (λ (k : ℕ). g (cells slot_width k m)) e))
      (λ h. (let e : min n most_slots ≡ most_slots = omega arith in ap (λ (k : ℕ). g (cells slot_width k m)) e ∙ sym (past most_slots n m (omega arith) (omega arith))))
      (le-or-lt n most_slots)

module _ (p : Slot → Bool) (passed : p [] ≡ false) where
  pub find-inside : (n : ℕ) (m : List ℕ) → length m ≡ slots_here.wide → find p (cells slot_width (min n most_slots) m) ≡ find p (cells slot_width n m)
  find-inside = only-inside (find p) (λ ss. find-later p [] ss passed) (λ s xs ys e. ap (cond (p s) (some s)) e)

  pub last-inside : (n : ℕ) (m : List ℕ) → length m ≡ slots_here.wide → find_last p (cells slot_width (min n most_slots) m) ≡ find_last p (cells slot_width n m)
  last-inside =
      only-inside (find_last p) (λ ss. last-other p [] ss passed) (λ s xs ys e. ap (λ (o : Option Slot). or_else o (cond (p s) (some s) none)) e)

-- ---- of an order, by its OrderID
module _ (id : List ℕ) (s : Slot) where
  pub order_told : {a b : Bool} → is_fill s ≡ a → same id (order_of s) ≡ b → a && b ≡ is_order id s
  order_told ea eb = cc

-- and of that of f
pub order_is : (f s : Slot) → is_order (order_of f) s ≡ same_order f s
unfolding same_order
order_is f s = refl

-- so of that of f, test by test
module _ (f s : Slot) where
  pub order-by : {a b : Bool} → is_fill s ≡ a → same (order_of f) (order_of s) ≡ b → a && b ≡ same_order f s
  order-by ea eb = order_told (order_of f) s ea eb ∙ order_is f s
