-- Sums and counts over slots, and the load as the slots have it.
--     sum-append, count-append     over lists one after another
--     count-split, count-front, count_most     over what is taken and what is left; no more than all of them, and than there are slots
--     fills-still, load-counted     with one slot more
--     kinds-more, kinds-all     where each slot is a fill or an entry, they are as many as there are slots
use mathlib.Core.Path.{◌≡◌, refl, sym, ap, ap₂, ◌∙◌}
use mathlib.Core.List.{List, [], ◌∷◌, ◌++◌}
use mathlib.Core.Logic.{◌⊎◌, ⊎_elim}
use mathlib.Core.Bool.{Bool, true, false, cond}
use Prim.Native.Nat.{ℕ, suc, ◌+◌, ◌≤◌}
use native.Mathlib.Nat.{zero-add, add_assoc}
use native.Mathlib.Omega.{arith}
use lib.ListN.{length, take, drop, take-append-drop}
use Rattle.octet.proofs.Cases.{of-cond, cond-true, cond-false}
use Rattle.fill.specs.Slot.{Slot, is_fill, is_entry, shares_of}
use Rattle.book.specs.Place.{sum_where, known_order, orders_with}
use Rattle.book.specs.Rows.{Row, is_known}
use Rattle.book.specs.Orders.{orders_of, fills_of, count_where, entries_of, load_of}
use Rattle.book.specs.Admitting.{load_with}
use Rattle.book.specs.declared.Load.{Load}
use Rattle.book.proofs.ByKind.{loads, entry-no-fill, fill-no-entry, load-as}
use Rattle.book.proofs.Orders.{orders-counted, orders-still}

-- ---- one after another
module _ (p : Slot → Bool) where
  pub sum-append : (ss ts : List Slot) → sum_where p (ss ++ ts) ≡ sum_where p ss + sum_where p ts
  unfolding sum_where
  sum-append [] ts = sym (zero-add (sum_where p ts))
  sum-append (s ∷ ss) ts =
      ap (λ (n : ℕ). cond (p s) (shares_of s) 0 + n) (sum-append ss ts) ∙ sym (add_assoc (cond (p s) (shares_of s) 0) (sum_where p ss) (sum_where p ts))

  pub count-append : (ss ts : List Slot) → count_where p (ss ++ ts) ≡ count_where p ss + count_where p ts
  unfolding count_where
  count-append [] ts = sym (zero-add (count_where p ts))
  count-append (s ∷ ss) ts = ap (λ (n : ℕ). cond (p s) 1 0 + n) (count-append ss ts) ∙ sym (add_assoc (cond (p s) 1 0) (count_where p ss) (count_where p ts))

  -- what is taken and what is left
  pub count-split : (n : ℕ) (ss : List Slot) → count_where p (take n ss) + count_where p (drop n ss) ≡ count_where p ss
  count-split n ss = sym (count-append (take n ss) (drop n ss)) ∙ ap (count_where p) (take-append-drop n ss)

  pub count-front : (n : ℕ) (ss : List Slot) → count_where p (take n ss) ≤ count_where p ss
  count-front n ss = omega (arith, count-split n ss)

  pub count_most : (ss : List Slot) → count_where p ss ≤ length ss
  unfolding count_where
  count_most [] = omega arith
  count_most (s ∷ ss) =
      let a : cond (p s) 1 0 ≤ 1 = of-cond (λ (k : ℕ). k ≤ 1) (p s) (λ e. omega arith) (λ e. omega arith) in
      omega (arith, count_most ss)

  -- one slot more
  pub count-end : (ss : List Slot) (s : Slot) → count_where p (ss ++ (s ∷ [])) ≡ cond (p s) (count_where p ss + 1) (count_where p ss)
  unfolding count_where
  count-end ss s = count-append ss (s ∷ []) ∙ by (p s)
    where
      by : (b : Bool) → count_where p ss + (cond b 1 0 + 0) ≡ cond b (count_where p ss + 1) (count_where p ss)
      by true = refl
      by false = omega arith

-- ---- the load, with one slot more
pub fills-still : (ss : List Slot) (s : Slot) → is_fill s ≡ false → fills_of (ss ++ (s ∷ [])) ≡ fills_of ss
fills-still ss s h = count-end is_fill ss s ∙ cond-false (is_fill s) (fills_of ss + 1) (fills_of ss) h

pub load-counted : (ss : List Slot) (rows : List Row) (load : Load) (s : Slot) → (is_fill s ≡ true) ⊎ (is_entry s ≡ true) → is_known ss rows s ≡ known_order ss s → load ≡ load_of ss
    → load_with ss rows load s ≡ load_of (ss ++ (s ∷ []))
load-counted ss rows load s k known h =
    ⊎_elim
    (λ f. (let n = fill-no-entry s f in
    let ef = count-end is_fill ss s in
    let eo = ap (λ (b : Bool). orders_with b (length (orders_of ss))) known ∙ orders-counted ss s f in
    let ee = count-end is_entry ss s ∙ cond-false (is_entry s) (entries_of ss + 1) (entries_of ss) n in
    ap (λ (l : Load). load_with ss rows l s) h ∙ load-as s n ss rows (load_of ss) ∙ loads (sym ef) eo (sym ee)))
    (λ e. (let n = entry-no-fill s e in
    let ef = fills-still ss s n in
    let eo = ap length (orders-still ss s n) in
    let ee = count-end is_entry ss s ∙ cond-true (is_entry s) (entries_of ss + 1) (entries_of ss) e in
    ap (λ (l : Load). load_with ss rows l s) h ∙ load-as s e ss rows (load_of ss) ∙ loads (sym ef) (sym eo) (sym ee)))
    k

-- ---- a slot is a fill or an entry
one-kind : (s : Slot) → (is_fill s ≡ true) ⊎ (is_entry s ≡ true) → cond (is_fill s) 1 0 + cond (is_entry s) 1 0 ≡ 1
one-kind s k =
    ⊎_elim
    (λ f. ap₂ (λ (a b : Bool). cond a 1 0 + cond b 1 0) f (fill-no-entry s f))
    (λ e. ap₂ (λ (a b : Bool). cond a 1 0 + cond b 1 0) (entry-no-fill s e) e)
    k

abbrev pub Kinded : List Slot → Type 0
Kinded [] = Unit
Kinded (s ∷ ss) = ((is_fill s ≡ true) ⊎ (is_entry s ≡ true)) × Kinded ss

pub kinds-all : (ss : List Slot) → Kinded ss → fills_of ss + entries_of ss ≡ length ss
unfolding count_where
kinds-all [] h = refl
kinds-all (s ∷ ss) h = omega (arith, one-kind s h.0, kinds-all ss h.1)

pub kinds-more : (ss : List Slot) (s : Slot) → (is_fill s ≡ true) ⊎ (is_entry s ≡ true)
    → fills_of (ss ++ (s ∷ [])) + entries_of (ss ++ (s ∷ [])) ≡ suc (fills_of ss + entries_of ss)
unfolding count_where
kinds-more ss s k = omega (arith, count-append is_fill ss (s ∷ []), count-append is_entry ss (s ∷ []), one-kind s k)
