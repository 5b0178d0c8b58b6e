-- What has failed stays failed, whatever bytes come after; only the skip may change, since it goes over all bytes.
--     garbled-longer     over any opening
use Rattle.std.specs.Prelude.{Ok, Err}
use mathlib.Core.Path.{◌≡◌, refl, sym, subst, ap}
use mathlib.Core.Logic.{⊎_elim}
use mathlib.Core.List.{List, [], ◌∷◌, ◌++◌}
use mathlib.Core.Bool.{Bool, true, false, cond, ◌&&◌}
use Prim.Native.Nat.{ℕ, suc, zero-le, suc-le-suc, ◌+◌, ◌≤◌, ◌<◌}
use native.Mathlib.Nat.{not-suc-le-zero, le_of_suc-le-suc}
use native.Mathlib.Omega.{arith}
use lib.ListN.{length, get_or, take, drop, length-append, length-drop, get_or-append}
use lib.Seq.{take-append-le, drop-append-le}
use lib.Dec.{ltb, leb, eqb}
use borrow.Author.Tests.{lt-ltb, le-ltb, lt-leb, ltb-true, ltb-false, leb-false}
use Rattle.octet.specs.Bytes.{bytes_of, between, agree, part}
use Rattle.octet.proofs.Cases.{of-cond, le-or-lt}
use Rattle.octet.proofs.Lists.{part-first, run-most}
use Rattle.text.specs.Decimal.{digit_run, digits, check_sum}
use Rattle.frame.specs.Finding.{Standing, body_ok, trailer_of, skip_of, answered, judge_whole, judge_length, judge_digits, judge_opening, found_by}
use Rattle.frame.specs.declared.Found.TheVariants.{Garbled}
use Rattle.frame.specs.declared.Unframed.TheVariants.{Short, Failed}
use Rattle.frame.proofs.Agree.{agree-longer, agree-differs}
use Rattle.frame.proofs.Bounds.{answered-garbled}
use Rattle.frame.proofs.Steps.{digits-past}

digit_run-stays : (u t : List ℕ) → digit_run u < length u → digit_run (u ++ t) ≡ digit_run u
digit_run-stays [] t h = absurd (not-suc-le-zero h)
digit_run-stays (b ∷ u) t h = go (between 48 57 b) (digit_run-stays u t) h
  where
    go : (d : Bool) → (digit_run u < length u → digit_run (u ++ t) ≡ digit_run u) → cond d (suc (digit_run u)) 0 < suc (length u)
        → cond d (suc (digit_run (u ++ t))) 0 ≡ cond d (suc (digit_run u)) 0
    go true f l = ap suc (f (le_of_suc-le-suc l))
    go false f l = refl

digit_run-more : (u t : List ℕ) → digit_run u ≤ digit_run (u ++ t)
digit_run-more [] t = zero-le
digit_run-more (b ∷ u) t = go (between 48 57 b) (digit_run-more u t)
  where
    go : (d : Bool) → digit_run u ≤ digit_run (u ++ t) → cond d (suc (digit_run u)) 0 ≤ cond d (suc (digit_run (u ++ t))) 0
    go true f = suc-le-suc f
    go false f = zero-le

-- a verdict that is Failed is so later
abbrev Stays : Standing → Standing → Type 0
Stays (Err Short) w = Unit {0}
Stays (Err Failed) w = w ≡ Err Failed
Stays (Ok n) w = Unit {0}

stays : (v w : Standing) → w ≡ v → Stays v w
stays (Err Short) w e = tt
stays (Err Failed) w e = e
stays (Ok n) w e = tt

or-fail : (a : Bool) (v w : Standing) → Stays v w → Stays (cond a v (Err Failed)) (cond a w (Err Failed))
or-fail true v w h = h
or-fail false v w h = refl

-- what `judge_whole` says of a message that is there
abbrev rest : ℕ → ℕ → List ℕ → Standing
rest at n s =
    cond (body_ok (part at n s) && agree (trailer_of (check_sum (take (at + n) s))) (drop (at + n) s)) (Ok (at + n + 7)) (Err Failed)

module _ (s t : List ℕ) where
  longer : length (s ++ t) ≡ length s + length t
  longer = length-append s t

  rest-stays : (at n : ℕ) → at + n + 7 ≤ length s → rest at n (s ++ t) ≡ rest at n s
  rest-stays at n h =
      let k : 7 ≤ length (drop (at + n) s) = omega (arith, length-drop (at + n) s) in
      rw (
        part-first at n s t (omega arith),
        take-append-le (at + n) s t (omega arith),
        drop-append-le (at + n) s t (omega arith),
        agree-longer (trailer_of (check_sum (take (at + n) s))) (drop (at + n) s) t k,
      )

  whole-stays : (at n : ℕ) → Stays (judge_whole at n s) (judge_whole at n (s ++ t))
  unfolding judge_whole
  whole-stays at n =
      of-cond (λ (v : Standing). Stays v (judge_whole at n (s ++ t))) (ltb (length s) (at + n + 7)) (λ e. tt)
      (λ e.
      let l = ltb-false (length s) (at + n + 7) e in
      rw (le-ltb (length (s ++ t)) (at + n + 7) (omega (arith, longer))) (stays (rest at n s) (rest at n (s ++ t)) (rest-stays at n l)))

  length-stays : (at n : ℕ) → Stays (judge_length at n s) (judge_length at n (s ++ t))
  unfolding judge_length
  length-stays at n = or-fail (between 5 4072 n) (judge_whole at n s) (judge_whole at n (s ++ t)) (whole-stays at n)

  many : (at : ℕ) → 4 < digit_run (drop at s) → 4 < digit_run (drop at (s ++ t))
  many at l =
      let h : at ≤ length s = omega (arith, run-most 48 57 (drop at s), length-drop at s) in
      rw (drop-append-le at s t h) (omega (arith, digit_run-more (drop at s) t))

  kept : (at : ℕ) → at + digit_run (drop at s) < length s → digit_run (drop at (s ++ t)) ≡ digit_run (drop at s)
  kept at f =
      let l : digit_run (drop at s) < length (drop at s) = omega (arith, length-drop at s) in
      rw (drop-append-le at s t (omega arith)) (digit_run-stays (drop at s) t l)

  digits-stays : (at : ℕ) → Stays (judge_digits at s) (judge_digits at (s ++ t))
  unfolding judge_digits
  digits-stays at =
      let W : Standing = judge_digits at (s ++ t) in
      let d = digit_run (drop at s) in
      let mark = leb 1 d && eqb (get_or s (at + d) 0) 1 in
      let n = digits (part at d s) in
      of-cond (λ (v : Standing). Stays v W) (ltb 4 d)
      (λ e. rw (lt-ltb 4 (digit_run (drop at (s ++ t))) (many at (ltb-true 4 d e))))
      (λ e. of-cond (λ (v : Standing). Stays v W) (leb (length s) (at + d)) (λ f. tt)
      (λ f.
      let there : at + d < length s = leb-false (length s) (at + d) f in
      let far : ltb 4 d ≡ false = e in
      rw (
        kept at there,
        far,
        lt-leb (length (s ++ t)) (at + d) (omega (arith, longer)),
        get_or-append s t 0 (at + d) there,
        part-first at d s t (omega arith),
      )
      (or-fail mark (judge_length (at + d + 1) n s) (judge_length (at + d + 1) n (s ++ t)) (length-stays (at + d + 1) n))))

  judge-stays : (o : List ℕ) → Stays (judge_opening o s) (judge_opening o (s ++ t))
  unfolding judge_opening
  judge-stays o =
      let head = o ++ bytes_of "9=" in
      of-cond (λ (v : Standing). Stays v (judge_opening o (s ++ t))) (agree (o ++ bytes_of "9=") s)
      (λ e. ⊎_elim
      (λ (h : length head ≤ length s). rw (agree-longer head s t h, e) (digits-stays (length o + 2)))
      (λ (h : length s < length head).
      subst (λ (v : Standing). Stays v (judge_opening o (s ++ t)))
      (sym (digits-past (length o + 2) s (omega (arith, length-append o (bytes_of "9="))))) tt)
      (le-or-lt (length head) (length s)))
      (λ e. rw (agree-differs (o ++ bytes_of "9=") s t e))

pub garbled-longer : (o s t : List ℕ) (p : ℕ) → found_by o s ≡ Garbled p → found_by o (s ++ t) ≡ Garbled (skip_of o (s ++ t))
unfolding found_by
garbled-longer o s t p e =
    let h : judge_opening o s ≡ Err Failed = (answered-garbled (judge_opening o s) (skip_of o s) p e).0 in
    let f : judge_opening o (s ++ t) ≡ Err Failed = subst (λ (v : Standing). Stays v (judge_opening o (s ++ t))) h (judge-stays s t o) in
    ap (λ (v : Standing). answered v (skip_of o (s ++ t))) f
