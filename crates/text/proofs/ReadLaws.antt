-- Digits read: how many stand at the front of a text, and the number that they write.
--     start, more     the loop over digits: where it starts, and one digit more
--     digits_append, digits-below     the number of digits after digits, and that k digits write one below ten to the k
--     run-append, run-digits     the digits at the front of digits and of what follows them
--     front-digits     what is read from the front of digits that no digit follows
--     front-in     what is read is digits
use Rattle.std.proofs.Common.{◌≡◌, ℕ, zero, suc, ◌+◌, ◌-◌, ◌*◌, ◌^◌, ◌<◌, ◌≤◌, min, Bool, true, false, List, [], ◌∷◌, ◌++◌, length, get_or, take, drop, sym, refl, ◌∙◌, add-zero, zero-add, arith, lit<}
use native.Mathlib.Nat.{suc-min-suc}
use lib.Seq.{take-append_seam}
use Rattle.octet.specs.Bytes.{between, all_in}
use Rattle.octet.specs.Places.{value_of}
use Rattle.octet.proofs.Cases.{and_both}
use Rattle.octet.proofs.Lists.{drop-step, run-most}
use Rattle.octet.proofs.Places.{value-append, value-split, value-below}
use Rattle.text.specs.Decimal.{digits, digit_run, digits_taken, digits_at_front}
use Rattle.text.specs.declared.Digits.{Digits}

-- ---- the loop over digits: n digits that write v are read, at most k more are read from t
abbrev pub so_far : ℕ → ℕ → ℕ → List ℕ → Digits
so_far n v k t = record { len = n + min k (digit_run t); value = value_of 10 48 v (take (min k (digit_run t)) t) }

pub start : (most k : ℕ) (s : List ℕ) → k ≡ min (min most 9) (length s) → digits_at_front most s ≡ so_far 0 0 (k - 0) s
unfolding digits_at_front
start most k s h =
    let e : min (k - 0) (digit_run s) ≡ digits_taken most s = omega (arith, run-most 48 57 s) in
    rw (e, zero-add)

one_more : (n v k b : ℕ) (t : List ℕ) → between 48 57 b ≡ true → so_far n v (suc k) (b ∷ t) ≡ so_far (n + 1) (v * 10 + (b - 48)) k t
one_more n v k b t g =
    let e : n + suc (min k (digit_run t)) ≡ (n + 1) + min k (digit_run t) = omega arith in
    simp (g, suc-min-suc, e)

pub more : (n v most i : ℕ) (s : List ℕ) → i < length s → i < most → between 48 57 (get_or s i 0) ≡ true
    → so_far n v (most - i) (drop i s) ≡ so_far (n + 1) (v * 10 + (get_or s i 0 - 48)) (most - (i + 1)) (drop (i + 1) s)
more n v most i s h l g =
    let e : most - i ≡ suc (most - (i + 1)) = omega arith in
    rw (e, drop-step s i h) (one_more n v (most - (i + 1)) (get_or s i 0) (drop (i + 1) s) g)

-- ---- digits, at every width
pub digits_append : (s t : List ℕ) → digits (s ++ t) ≡ digits s * 10 ^ length t + digits t
digits_append s t = value-append 10 48 0 s t ∙ value-split 10 48 (digits s) t

pub digits-below : (s : List ℕ) → all_in 48 57 s ≡ true → digits s < 10 ^ length s
digits-below s h = value-below 10 48 (lit< tt) 57 (lit< tt) s h

-- a run of digits, and what follows it that begins with none
pub run-append : (s t : List ℕ) → all_in 48 57 s ≡ true → digit_run (s ++ t) ≡ length s + digit_run t
run-append [] t h = sym (zero-add _)
run-append (b ∷ s) t h =
    let e = and_both (between 48 57 b) (all_in 48 57 s) h in
    rw (e.0, run-append s t e.1) (omega arith)

pub run-digits : (s t : List ℕ) → all_in 48 57 s ≡ true → digit_run t ≡ 0 → digit_run (s ++ t) ≡ length s
run-digits s t h g = run-append s t h ∙ rw g (add-zero _)

pub front-digits : (most : ℕ) (s t : List ℕ) → all_in 48 57 s ≡ true → digit_run t ≡ 0 → length s ≤ most → length s ≤ 9
    → digits_at_front most (s ++ t) ≡ record { len = length s; value = digits s }
unfolding digits_at_front
front-digits most s t h g a b =
    let e : digits_taken most (s ++ t) ≡ length s = rw (run-digits s t h g) (omega arith) in
    rw (e, take-append_seam s t)

-- a front of the digits at the front is all digits
pub front-in : (n : ℕ) (s : List ℕ) → n ≤ digit_run s → all_in 48 57 (take n s) ≡ true
front-in zero s h = refl
front-in (suc n) [] h = refl
front-in (suc n) (b ∷ s) h = by (between 48 57 b) refl (λ g. front-in n s g) where
  by : (t : Bool) → between 48 57 b ≡ t → (n ≤ digit_run s → all_in 48 57 (take n s) ≡ true) → all_in 48 57 (take (suc n) (b ∷ s)) ≡ true
  by true e ih = let g = rw e at h in rw e (ih (omega arith))
  by false e ih = let g = rw e at h in absurd (omega arith)
