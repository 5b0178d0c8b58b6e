-- What an answer says of the bytes it was given for: a message is 16 to 4,086 bytes longer than its opening (26 to 4,096 in all) and all there;
-- a skip goes on by one byte or more, and not past the end.
--     framed-by-fine, garbled-by-fine     over any opening
--     framed-fine, garbled-fine     for `8=FIX.4.2|`
--     found_none     no bytes: More
--     answered-framed, answered-garbled     the verdict behind an answer
use Rattle.std.specs.Prelude.{Ok, Err}
use mathlib.Core.Path.{◌≡◌, refl, subst, ap}
use mathlib.Core.List.{List, [], ◌∷◌, ◌++◌}
use mathlib.Core.Bool.{◌&&◌}
use Prim.Native.Nat.{ℕ, suc, zero-le, suc-le-suc, ◌+◌, ◌≤◌}
use native.Mathlib.Omega.{arith}
use lib.ListN.{length, get_or, take, drop}
use lib.Dec.{ltb, leb, eqb}
use borrow.Author.Tests.{ltb-false, leb-true}
use Rattle.octet.specs.Bytes.{bytes_of, between, agree, part}
use Rattle.octet.proofs.Cases.{of-cond, and_left}
use Rattle.octet.proofs.Lists.{agree-none, between-low, between-high}
use Rattle.text.specs.Decimal.{digit_run, digits, check_sum}
use Rattle.frame.specs.Finding.{Standing, to_agree, skip_of, body_ok, trailer_of, answered, opening, judge_whole, judge_length, judge_digits, judge_opening, found_by, found_in}
use Rattle.frame.specs.declared.Found.TheVariants.{More, Garbled, Framed}
use Rattle.frame.specs.declared.Unframed.TheVariants.{Short, Failed}
use Rattle.frame.proofs.Steps.{digits-past}

-- ---- the verdict behind an answer
pub answered-framed : (v : Standing) (p n : ℕ) → answered v p ≡ Framed n → v ≡ Ok n
answered-framed (Err Short) p n e = cc
answered-framed (Err Failed) p n e = cc
answered-framed (Ok m) p n e = cc

pub answered-garbled : (v : Standing) (p q : ℕ) → answered v p ≡ Garbled q → (v ≡ Err Failed) × (p ≡ q)
answered-garbled (Err Short) p q e = (cc, cc)
answered-garbled (Err Failed) p q e = (cc, cc)
answered-garbled (Ok m) p q e = (cc, cc)

-- ---- a whole message lies within the k bytes, and is 16 to 4,086 bytes longer than the opening of w bytes
abbrev Within : ℕ → ℕ → Standing → Type 0
Within w k (Err Short) = Unit {0}
Within w k (Err Failed) = Unit {0}
Within w k (Ok n) = (w + 16 ≤ n) × (n ≤ w + 4086) × (n ≤ k)

module _ (w : ℕ) (s : List ℕ) where
  whole-within : (at n : ℕ) → w + 4 ≤ at → at ≤ w + 7 → 5 ≤ n → n ≤ 4072 → Within w (length s) (judge_whole at n s)
  unfolding judge_whole
  whole-within at n ha hb hc hd =
      of-cond (Within w (length s)) (ltb (length s) (at + n + 7)) (λ e. tt)
      (λ e. of-cond (Within w (length s)) (body_ok (part at n s) && agree (trailer_of (check_sum (take (at + n) s))) (drop (at + n) s))
      (λ f. (omega arith, omega arith, ltb-false (length s) (at + n + 7) e)) (λ f. tt))

  length-within : (at n : ℕ) → w + 4 ≤ at → at ≤ w + 7 → Within w (length s) (judge_length at n s)
  unfolding judge_length
  length-within at n ha hb =
      of-cond (Within w (length s)) (between 5 4072 n)
      (λ e. whole-within at n ha hb (between-low 5 4072 n e) (between-high 5 4072 n e)) (λ e. tt)

  digits-within : (at : ℕ) → at ≡ w + 2 → Within w (length s) (judge_digits at s)
  unfolding judge_digits
  digits-within at h =
      let d = digit_run (drop at s) in
      let mark = eqb (get_or s (at + d) 0) 1 in
      of-cond (Within w (length s)) (ltb 4 d) (λ e. tt)
      (λ e. of-cond (Within w (length s)) (leb (length s) (at + d)) (λ f. tt)
      (λ f. of-cond (Within w (length s)) (leb 1 d && mark)
      (λ g.
      let some = leb-true 1 d (and_left (leb 1 d) mark g) in
      let few = ltb-false 4 d e in
      length-within (at + d + 1) (digits (part at d s)) (omega arith) (omega arith))
      (λ g. tt)))

judge-within : (o s : List ℕ) → Within (length o) (length s) (judge_opening o s)
unfolding judge_opening
judge-within o s =
    of-cond (Within (length o) (length s)) (agree (o ++ bytes_of "9=") s) (λ e. digits-within (length o) s (length o + 2) refl) (λ e. tt)

-- ---- no bytes: nothing failed
none-short : (o : List ℕ) → judge_opening o [] ≡ Err Short
unfolding judge_opening
none-short o = rw (agree-none (o ++ bytes_of "9=")) (digits-past (length o + 2) [] zero-le)

to_agree-le : (o s : List ℕ) → to_agree o s ≤ length s
to_agree-le o [] = zero-le
to_agree-le o (x ∷ s) =
    of-cond (λ (k : ℕ). k ≤ suc (length s)) (agree o (x ∷ s)) (λ e. zero-le) (λ e. suc-le-suc (to_agree-le o s))

skip-fine : (o s : List ℕ) → judge_opening o s ≡ Err Failed → (1 ≤ skip_of o s) × (skip_of o s ≤ length s)
unfolding skip_of
skip-fine o [] e = let z : ◌≡◌ {A = ℕ} 0 1 = cc (none-short o) in absurd (omega arith)
skip-fine o (x ∷ s) e = let l = to_agree-le o s in (omega arith, omega arith)

-- ---- for callers
pub found_none : (o : List ℕ) → found_by o [] ≡ More
unfolding found_by
found_none o = ap (λ (v : Standing). answered v (skip_of o [])) (none-short o)

pub framed-by-fine : (o s : List ℕ) (n : ℕ) → found_by o s ≡ Framed n → (length o + 16 ≤ n) × (n ≤ length o + 4086) × (n ≤ length s)
unfolding found_by
framed-by-fine o s n e =
    subst (Within (length o) (length s)) (answered-framed (judge_opening o s) (skip_of o s) n e) (judge-within o s)

pub garbled-by-fine : (o s : List ℕ) (p : ℕ) → found_by o s ≡ Garbled p → (1 ≤ p) × (p ≤ length s)
unfolding found_by
garbled-by-fine o s p e =
    let h = answered-garbled (judge_opening o s) (skip_of o s) p e in
    subst (λ (k : ℕ). (1 ≤ k) × (k ≤ length s)) h.1 (skip-fine o s h.0)

pub framed-fine : (s : List ℕ) (n : ℕ) → found_in s ≡ Framed n → (26 ≤ n) × (n ≤ 4096) × (n ≤ length s)
framed-fine s n e = framed-by-fine opening s n e

pub garbled-fine : (s : List ℕ) (p : ℕ) → found_in s ≡ Garbled p → (1 ≤ p) × (p ≤ length s)
garbled-fine s p e = garbled-by-fine opening s p e
