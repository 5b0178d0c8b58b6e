-- How far a value is like a pattern: a walk over both, and a value that is like it as far as it goes.
--     like-position, like-short     as `position` asks it
--     like-go, like-done     the walk
--     like-digits     where digits stand in the pattern, digits stand in such a value
--     like-all     where the pattern has digits and marks alone, so has such a value
--     like-append     such a value, and what follows it
--     like-most, like-rest, like-reach     how far a value is like a pattern, so far it begins one that is like all of it, and no further
--     like-run, like-size, like-whole     a value that is like all of a pattern
use mathlib.Core.Path.{◌≡◌, refl, sym, ap, ap₂, ◌∙◌, subst}
use mathlib.Core.List.{List, [], ◌∷◌, ◌++◌, append-nil}
use mathlib.Core.Bool.{Bool, true, false, cond, not}
use Prim.Native.Nat.{ℕ, zero, suc, ◌+◌, ◌≤◌, ◌<◌, min}
use native.Mathlib.Omega.{arith}
use lib.ListN.{length, get_or, take, drop}
use lib.Seq.{take-length}
use native.Mathlib.Nat.{zero-add}
use lib.Dec.{eqb}
use borrow.Author.Tests.{eqb-true, eq-eqb}
use Rattle.std.specs.List.{position_or_len, zip}
use Rattle.octet.specs.Bytes.{between, all_in, part}
use Rattle.octet.proofs.Cases.{true-not-false, of-cond, cond-true, and_both, and-make}
use Rattle.octet.proofs.Lists.{drop-step, drop-done, between-low, between-high, is-between}
use Rattle.value.specs.Value.{like_byte, like_run}
use Rattle.value.specs.Place.{like_all}

like-none : (p : List ℕ) → like_run p [] ≡ 0
like-none [] = refl
like-none (t ∷ p) = refl

-- as `position` asks it, along both at once
pub like-position : (p v : List ℕ) → like_run p v ≡ position_or_len (λ (x : ℕ × ℕ). not (like_byte x.0 x.1)) (zip p v)
like-position [] v = refl
like-position (t ∷ p) [] = refl
like-position (t ∷ p) (b ∷ v) = grind (arith, like-position p v)

pub like-short : (p v : List ℕ) → like_run p v ≤ min (length p) (length v)
like-short [] v = omega arith
like-short (t ∷ p) [] = omega arith
like-short (t ∷ p) (b ∷ v) = of-cond (λ (n : ℕ). n ≤ min (suc (length p)) (suc (length v))) (like_byte t b) (λ e. omega (arith, like-short p v)) (λ e. omega arith)

-- at place i of both
module _ (p v : List ℕ) (i : ℕ) where
  pub like-go : i < length p → i < length v → like_byte (get_or p i 0) (get_or v i 0) ≡ true
      → like_run (drop i p) (drop i v) ≡ 1 + like_run (drop (i + 1) p) (drop (i + 1) v)
  like-go hp hv e = ap₂ like_run (drop-step p i hp) (drop-step v i hv) ∙ cond-true _ _ _ e ∙ omega arith

  pub like-done : length v ≤ i → like_run (drop i p) (drop i v) ≡ 0
  like-done h = ap (like_run (drop i p)) (drop-done v i h) ∙ like-none (drop i p)

-- ---- a value that is like a pattern as far as it goes
like-head : (t b : ℕ) (p v : List ℕ) → like_run (t ∷ p) (b ∷ v) ≡ suc (length v) → (like_byte t b ≡ true) × (like_run p v ≡ length v)
like-head t b p v =
    of-cond (λ (n : ℕ). n ≡ suc (length v) → (like_byte t b ≡ true) × (like_run p v ≡ length v)) (like_byte t b)
    (λ e h. (e, omega arith)) (λ e h. absurd (omega arith))

like-drop : (at : ℕ) (p v : List ℕ) → like_run p v ≡ length v → like_run (drop at p) (drop at v) ≡ length (drop at v)
like-drop zero p v h = h
like-drop (suc at) p [] h = like-none (drop (suc at) p)
like-drop (suc at) [] (b ∷ v) h = absurd (omega arith)
like-drop (suc at) (t ∷ p) (b ∷ v) h = like-drop at p v (like-head t b p v h).1

like-front : (n : ℕ) (p v : List ℕ) → like_run p v ≡ length v → all_in 48 57 (take n p) ≡ true → all_in 48 57 (take n v) ≡ true
like-front zero p v h e = refl
like-front (suc n) p [] h e = refl
like-front (suc n) [] (b ∷ v) h e = absurd (omega arith)
like-front (suc n) (t ∷ p) (b ∷ v) h e =
    let q = like-head t b p v h in
    let d = and_both (between 48 57 t) (all_in 48 57 (take n p)) e in
    and-make (between 48 57 b) (all_in 48 57 (take n v)) (sym (cond-true (between 48 57 t) (between 48 57 b) _ d.0) ∙ q.0) (like-front n p v q.1 d.1)

pub like-digits : (at n : ℕ) (p v : List ℕ) → like_run p v ≡ length v → all_in 48 57 (part at n p) ≡ true → all_in 48 57 (part at n v) ≡ true
like-digits at n p v h e = like-front n (drop at p) (drop at v) (like-drop at p v h) e

-- a pattern of digits and marks from `-` to `:` is that of such bytes alone
like-byte : (t b : ℕ) → like_byte t b ≡ true → between 45 58 t ≡ true → between 45 58 b ≡ true
like-byte t b h k = go (between 48 57 t) h
  where
    go : (x : Bool) → cond x (between 48 57 b) (eqb t b) ≡ true → between 45 58 b ≡ true
    go true e = let l = between-low 48 57 b e in let m = between-high 48 57 b e in is-between 45 58 b (omega arith) (omega arith)
    go false e = subst (λ (y : ℕ). between 45 58 y ≡ true) (eqb-true t b e) k

pub like-all : (p v : List ℕ) → like_run p v ≡ length v → all_in 45 58 p ≡ true → all_in 45 58 v ≡ true
like-all [] [] h e = refl
like-all [] (b ∷ v) h e = absurd (omega arith)
like-all (t ∷ p) [] h e = refl
like-all (t ∷ p) (b ∷ v) h e =
    let q = like-head t b p v h in
    let d = and_both (between 45 58 t) (all_in 45 58 p) e in
    and-make (between 45 58 b) (all_in 45 58 v) (like-byte t b q.0 d.0) (like-all p v q.1 d.1)

pub like-append : (p v w : List ℕ) → like_run p v ≡ length v → like_run p (v ++ w) ≡ length v + like_run (drop (length v) p) w
like-append p [] w h = sym (zero-add (like_run p w))
like-append [] (b ∷ v) w h = absurd (omega arith)
like-append (t ∷ p) (b ∷ v) w h =
    let q = like-head t b p v h in
    cond-true (like_byte t b) (suc (like_run p (v ++ w))) 0 q.0 ∙ omega (arith, like-append p v w q.1)

-- ---- a value that is like all of a pattern
like-same : (t : ℕ) → like_byte t t ≡ true
like-same t = of-cond (λ (x : Bool). x ≡ true) (between 48 57 t) (λ e. e) (λ e. eq-eqb t t refl)

like-self : (p : List ℕ) → like_all p p ≡ true
like-self [] = refl
like-self (t ∷ p) = and-make (like_byte t t) (like_all p p) (like-same t) (like-self p)

pub like-most : (p v : List ℕ) → like_run p v ≤ length v
like-most [] v = omega arith
like-most (t ∷ p) [] = omega arith
like-most (t ∷ p) (b ∷ v) = of-cond (λ (n : ℕ). n ≤ suc (length v)) (like_byte t b) (λ e. omega (arith, like-most p v)) (λ e. omega arith)

-- what is like a pattern goes on with the rest of the pattern itself
pub like-rest : (p v : List ℕ) → like_all p (take (like_run p v) v ++ drop (like_run p v) p) ≡ true
like-rest [] v = refl
like-rest (t ∷ p) [] = like-self (t ∷ p)
like-rest (t ∷ p) (b ∷ v) =
    of-cond (λ (n : ℕ). like_all (t ∷ p) (take n (b ∷ v) ++ drop n (t ∷ p)) ≡ true) (like_byte t b)
    (λ e. and-make (like_byte t b) (like_all p (take (like_run p v) v ++ drop (like_run p v) p)) e (like-rest p v)) (λ e. like-self (t ∷ p))

-- what begins one that is like all of a pattern is like it, and like a longer one
pub like-reach : (n : ℕ) (p q v rest : List ℕ) → n ≤ length v → like_all p (take n v ++ rest) ≡ true → n ≤ like_run (p ++ q) v
like-reach zero p q v rest h e = omega arith
like-reach (suc n) p q [] rest h e = absurd (omega arith)
like-reach (suc n) [] q (b ∷ v) rest h e = true-not-false (sym e)
like-reach (suc n) (t ∷ p) q (b ∷ v) rest h e =
    let d = and_both (like_byte t b) (like_all p (take n v ++ rest)) e in
    omega (arith, cond-true (like_byte t b) (suc (like_run (p ++ q) v)) 0 d.0, like-reach n p q v rest (omega arith) d.1)

pub like-run : (p q v : List ℕ) → like_all p v ≡ true → like_run (p ++ q) v ≡ length v
like-run p q v e =
    let f : take (length v) v ++ [] ≡ v = append-nil (take (length v) v) ∙ take-length v in
    omega (arith, like-most (p ++ q) v, like-reach (length v) p q v [] (omega arith) (ap (like_all p) f ∙ e))

pub like-size : (p v : List ℕ) → like_all p v ≡ true → length v ≡ length p
like-size [] [] e = refl
like-size [] (b ∷ v) e = true-not-false (sym e)
like-size (t ∷ p) [] e = true-not-false (sym e)
like-size (t ∷ p) (b ∷ v) e = ap suc (like-size p v (and_both (like_byte t b) (like_all p v) e).1)

pub like-whole : (p q v : List ℕ) → like_run (p ++ q) v ≡ length v → length v ≡ length p → like_all p v ≡ true
like-whole [] q [] h l = refl
like-whole [] q (b ∷ v) h l = absurd (omega arith)
like-whole (t ∷ p) q [] h l = absurd (omega arith)
like-whole (t ∷ p) q (b ∷ v) h l =
    let d = like-head t b (p ++ q) v h in
    and-make (like_byte t b) (like_all p v) d.0 (like-whole p q v d.1 (omega arith))
