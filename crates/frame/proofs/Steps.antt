-- The layers of the definition as the code takes them.
--     opening-err, tag-err, digits-next     the opening, then the length's tag, then the digits
--     digits-past     the length's tag is not all there
--     digits-many, digits-few     what at most five digits tell
--     trailer-bytes     the last field byte by byte
--     digits-told, digits-end, body-told     the digits before a body, and the body
use Rattle.std.specs.Prelude.{Result, Ok, Err}
use mathlib.Core.Path.{◌≡◌, refl, sym, ap, ◌∙◌}
use mathlib.Core.Logic.{⊎_elim}
use mathlib.Core.List.{List, [], ◌∷◌}
use mathlib.Core.Bool.{Bool, true, false, cond, ◌&&◌}
use Prim.Native.Nat.{ℕ, ◌+◌, ◌-◌, ◌/◌, ◌%◌, ◌≤◌, ◌<◌, min, max}
use native.Mathlib.Nat.{div-one}
use native.Mathlib.Omega.{arith}
use lib.ListN.{length, get_or, take, drop, drop_of_length-le, length-drop}
use lib.Dec.{leb, eqb}
use borrow.Author.Tests.{lt-ltb, le-ltb, le-leb, leb-true, leb-false}
use Rattle.octet.specs.Bytes.{bytes_of, agree, part}
use Rattle.octet.proofs.Cases.{cond-and, le-or-lt}
use Rattle.octet.proofs.Lists.{part-rest, drop-done, run-most}
use Rattle.text.specs.Decimal.{digit_run, digits, digits_at_front}
use Rattle.text.specs.declared.Digits.{Digits}
use Rattle.frame.specs.Finding.{trailer_of, judge_length, judge_digits, begun, judge_opening, body_at, body_by}
use Rattle.frame.specs.declared.Unframed.{Unframed}
use Rattle.frame.specs.declared.Unframed.TheVariants.{Short, Failed}
use Rattle.frame.proofs.Agree.{agree-append}

pub ruleset rests = (part-rest)

pub judge-two : (o s : List ℕ)
    → judge_opening o s ≡ cond (agree o s) (cond (agree (bytes_of "9=") (drop (length o) s)) (judge_digits (length o + 2) s) (Err Failed)) (Err Failed)
unfolding judge_opening
judge-two o s =
    ap (λ (t : Bool). cond t (judge_digits (length o + 2) s) (Err Failed)) (agree-append o (bytes_of "9=") s)
    ∙ cond-and (agree o s) (agree (bytes_of "9=") (drop (length o) s)) (judge_digits (length o + 2) s) (Err Failed)

pub digits-past : (at : ℕ) (s : List ℕ) → length s ≤ at → judge_digits at s ≡ Err Short
unfolding judge_digits
digits-past at s h = rw (drop_of_length-le s h, le-leb (length s) (at + 0) (omega arith))

abbrev yes : Result (Unit {0}) Unframed
yes = Ok tt

abbrev begun_by : Bool → Bool → Result (Unit {0}) Unframed
begun_by p q = cond p (cond q yes (Err Short)) (Err Failed)

-- the opening and the length's tag, one after the other, each as far as bytes have come
module _ (o s : List ℕ) where
  abbrev rest : List ℕ
  rest = take (length s - length o) (drop (length o) s)

  opening-missing : agree o s ≡ true → length s < length o → judge_opening o s ≡ Err Short
  opening-missing e h = judge-two o s ∙ rw (e, drop-done s (length o) (omega arith), digits-past (length o + 2) s (omega arith))

  pub opening-err : (e : Unframed) → begun o s ≡ Err e → judge_opening o s ≡ Err e
  opening-err e h = by (agree o s) (leb (length o) (length s)) refl refl h
    where
      by : (p q : Bool) → agree o s ≡ p → leb (length o) (length s) ≡ q → begun_by p q ≡ Err e → judge_opening o s ≡ Err e
      by true true f g k = cc
      by true false f g k = let m : Short ≡ e = cc in opening-missing f (leb-false (length o) (length s) g) ∙ ap Err m
      by false q f g k = let m : Failed ≡ e = cc in judge-two o s ∙ rw f (ap Err m)

  opening-there : begun o s ≡ yes → (agree o s ≡ true) × (length o ≤ length s)
  opening-there h = by (agree o s) (leb (length o) (length s)) refl refl h
    where
      by : (p q : Bool) → agree o s ≡ p → leb (length o) (length s) ≡ q → begun_by p q ≡ yes → (agree o s ≡ true) × (length o ≤ length s)
      by true true f g k = (f, leb-true (length o) (length s) g)
      by true false f g k = (f, cc)
      by false q f g k = (cc, cc)

  two-begun : begun o s ≡ yes → judge_opening o s ≡ cond (agree (bytes_of "9=") rest) (judge_digits (length o + 2) s) (Err Failed)
  two-begun h = judge-two o s ∙ rw ((opening-there h).0, part-rest s (length o))

  pub tag-err : (e : Unframed) → begun o s ≡ yes → begun (bytes_of "9=") rest ≡ Err e → judge_opening o s ≡ Err e
  tag-err e h i = two-begun h ∙ by (agree (bytes_of "9=") rest) (leb 2 (length rest)) refl i
    where
      by : (p q : Bool) → leb 2 (length rest) ≡ q → begun_by p q ≡ Err e → cond p (judge_digits (length o + 2) s) (Err Failed) ≡ Err e
      by true true g k = cc
      by true false g k =
          let m : Short ≡ e = cc in
          digits-past (length o + 2) s (omega (arith, leb-false 2 (length rest) g, ap length (part-rest s (length o)), length-drop (length o) s, (opening-there h).1)) ∙ ap Err m
      by false q g k = let m : Failed ≡ e = cc in ap Err m

  pub digits-next : begun o s ≡ yes → begun (bytes_of "9=") rest ≡ yes → judge_opening o s ≡ judge_digits (length o + 2) s
  digits-next h i = two-begun h ∙ by (agree (bytes_of "9=") rest) (leb 2 (length rest)) i
    where
      by : (p q : Bool) → begun_by p q ≡ yes → cond p (judge_digits (length o + 2) s) (Err Failed) ≡ judge_digits (length o + 2) s
      by true q k = refl
      by false q k = cc

pub ruleset openings = (opening-err, tag-err, digits-next)

module _ (at : ℕ) (s : List ℕ) (d : Digits) (told : d ≡ digits_at_front 5 (drop at s)) where
  width : d.len ≡ min (min 5 9) (digit_run (drop at s))
  unfolding digits_at_front
  width = ap (λ (x : Digits). x.len) told

  value : d.value ≡ digits (take d.len (drop at s))
  unfolding digits_at_front
  value = ap (λ (x : Digits). x.value) told ∙ ap (λ (k : ℕ). digits (take k (drop at s))) (sym width)

  pub digits-many : 4 < d.len → judge_digits at s ≡ Err Failed
  unfolding judge_digits
  digits-many h = rw (lt-ltb 4 (digit_run (drop at s)) (omega (arith, width)))

  pub digits-few : d.len ≤ 4
      → judge_digits at s
      ≡ cond (leb (length s) (at + d.len)) (Err Short)
      (cond (leb 1 d.len && eqb (get_or s (at + d.len) 0) 1) (judge_length (at + d.len + 1) d.value s) (Err Failed))
  unfolding judge_digits
  digits-few h =
      let e : digit_run (drop at s) ≡ d.len = omega (arith, width) in
      rw (e, le-ltb 4 d.len h, value)

pub trailer-bytes : (c : ℕ)
    → trailer_of c ≡ 49 ∷ 48 ∷ 61 ∷ (48 + c / 100 % 10) ∷ (48 + c / 10 % 10) ∷ (48 + c % 10) ∷ 1 ∷ []
trailer-bytes c = ap (λ (x : ℕ). 49 ∷ 48 ∷ 61 ∷ (48 + c / 100 % 10) ∷ (48 + c / 10 % 10) ∷ (48 + x % 10) ∷ 1 ∷ []) (div-one c)

-- the digits that follow a place, or none where the bytes end before it
module _ (at : ℕ) (s : List ℕ) {from run : ℕ} (cut : from ≡ min at (length s)) (told : run ≡ digit_run (take (length s - from) (drop from s))) where
  pub digits-told : run ≡ digit_run (drop at s)
  digits-told =
      told
      ∙ ap digit_run (part-rest s from)
      ∙ ⊎_elim
      (λ (h : at ≤ length s). (let e : from ≡ at = omega arith in ap (λ (k : ℕ). digit_run (drop k s)) e))
      (λ (h : length s < at). ap digit_run (drop-done s from (omega arith) ∙ sym (drop-done s at (omega arith))))
      (le-or-lt at (length s))

  pub digits-end : at + run ≤ max at (length s)
  digits-end = omega (arith, digits-told, run-most 48 57 (drop at s), length-drop at s)

pub body-told : (o s : List ℕ) (n : ℕ) {run m : ℕ} → run ≡ digit_run (drop (length o + 2) s) → m ≡ n - (length o + 2 + run + 1 + 7)
    → part (length o + 2 + run + 1) m s ≡ body_by o n s
unfolding body_by
body-told o s n told cut = let e : n - (body_at o s + 7) ≡ n - 7 - body_at o s = omega arith in rw (cut, told) (ap (λ (k : ℕ). part (body_at o s) k s) e)
