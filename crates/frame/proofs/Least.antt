-- The skip is what the paper says: the least p of 1 or more such that the bytes from p on agree with the opening as far as both go.
--     skip_is, skip-only     `skip_of` is that number, and no other number is
--     garbled-skip     the number that Garbled holds is it
use mathlib.Core.Path.{◌≡◌, subst}
use mathlib.Core.List.{List, [], ◌∷◌}
use mathlib.Core.Bool.{true, false}
use Prim.Native.Nat.{ℕ, zero, suc, ◌+◌, ◌-◌, ◌≤◌, ◌<◌}
use native.Mathlib.Nat.{not-suc-le-zero, le_of_suc-le-suc}
use native.Mathlib.Omega.{arith}
use lib.ListN.{drop}
use lib.Seq.{drop-drop}
use Rattle.octet.specs.Bytes.{agree}
use Rattle.octet.proofs.Cases.{of-cond, contrary}
use Rattle.octet.proofs.Lists.{agree-none}
use Rattle.frame.specs.Finding.{to_agree, skip_of, judge_opening, found_by}
use Rattle.frame.specs.declared.Found.TheVariants.{Garbled}
use Rattle.frame.proofs.Bounds.{answered-garbled}

agrees-there : (o s : List ℕ) → agree o (drop (to_agree o s) s) ≡ true
agrees-there o [] = agree-none o
agrees-there o (x ∷ s) =
    of-cond (λ (k : ℕ). agree o (drop k (x ∷ s)) ≡ true) (agree o (x ∷ s)) (λ e. e) (λ e. agrees-there o s)

differs-before : (o s : List ℕ) (q : ℕ) → q < to_agree o s → agree o (drop q s) ≡ false
differs-before o [] q h = absurd (not-suc-le-zero h)
differs-before o (x ∷ s) zero h =
    of-cond (λ (k : ℕ). 0 < k → agree o (x ∷ s) ≡ false) (agree o (x ∷ s)) (λ e l. absurd (not-suc-le-zero l)) (λ e l. e) h
differs-before o (x ∷ s) (suc q) h =
    of-cond (λ (k : ℕ). suc q < k → agree o (drop q s) ≡ false) (agree o (x ∷ s))
    (λ e l. absurd (not-suc-le-zero l)) (λ e l. differs-before o s q (le_of_suc-le-suc l)) h

-- what the paper says of the skip p
pub record IsSkip (o s : List ℕ) (p : ℕ) : Type 0 where
  pub some : 1 ≤ p
  pub agrees : agree o (drop p s) ≡ true
  pub least : (q : ℕ) → 1 ≤ q → q < p → agree o (drop q s) ≡ false

pub skip_is : (o s : List ℕ) → IsSkip o s (skip_of o s)
unfolding skip_of
skip_is o s = record {
  some = omega arith;
  agrees = rw (← drop-drop (to_agree o (drop 1 s)) 1 s) (agrees-there o (drop 1 s));
  least = λ q h l.
      let e : 1 + (q - 1) ≡ q = omega arith in
      subst (λ (k : ℕ). agree o (drop k s) ≡ false) e
      (rw (drop-drop (q - 1) 1 s) at (differs-before o (drop 1 s) (q - 1) (omega arith)));
}

pub skip-only : (o s : List ℕ) (p q : ℕ) → IsSkip o s p → IsSkip o s q → p ≡ q
skip-only o s p q a b =
    let up : ¬ (q < p) = λ h. contrary b.agrees (a.least q b.some h) in
    let down : ¬ (p < q) = λ h. contrary a.agrees (b.least p a.some h) in
    omega arith

pub garbled-skip : (o s : List ℕ) (p : ℕ) → found_by o s ≡ Garbled p → IsSkip o s p
unfolding found_by
garbled-skip o s p e = subst (IsSkip o s) (answered-garbled (judge_opening o s) (skip_of o s) p e).1 (skip_is o s)
