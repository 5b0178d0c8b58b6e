-- Whatever is framed was put together as the paper says, and its body is what `body_by` finds.
--     sound     a framed message's parts, and what follows it
--     framed-alone, framed-longer, body-longer     the bytes after a framed message are not looked at
use Rattle.std.specs.Prelude.{Ok, Err}
use mathlib.Core.Path.{◌≡◌, refl, sym, ◌∙◌, subst, ap, ap₂}
use mathlib.Core.List.{List, [], ◌++◌, append_assoc, append-nil}
use mathlib.Core.Bool.{true, ◌&&◌}
use Prim.Native.Nat.{ℕ, ◌+◌, ◌≤◌, ◌<◌}
use native.Mathlib.Numerals.{add-one}
use native.Mathlib.Omega.{arith}
use lib.ListN.{length, get_or, take, drop, length-append, length-drop, take-append-drop}
use lib.Seq.{take-add, take-suc, take_at, length-take-le}
use lib.Dec.{ltb, leb, eqb}
use borrow.Author.Tests.{ltb-false, leb-true, leb-false, eqb-true}
use Rattle.octet.specs.Bytes.{bytes_of, between, all_in, agree, part}
use Rattle.octet.proofs.Cases.{of-cond, and_both}
use Rattle.octet.proofs.Lists.{agree-begins, length_part, between-low, between-high, run_in_lem}
use Rattle.text.specs.Decimal.{digit_run, digits, check_sum}
use Rattle.frame.specs.Finding.{Standing, body_ok, trailer_of, skip_of, judge_whole, judge_length, judge_digits, judge_opening, found_by, body_by}
use Rattle.frame.specs.declared.Found.TheVariants.{Framed}
use Rattle.frame.specs.declared.Unframed.TheVariants.{Short, Failed}
use Rattle.frame.proofs.Bounds.{answered-framed, framed-by-fine}
use Rattle.frame.proofs.Complete.{Parts, before, message, complete, body-found}

agree-take : (o s : List ℕ) → length o ≤ length s → agree o s ≡ true → take (length o) s ≡ o
agree-take o s h e = ap (take (length o)) (agree-begins o s h e) ∙ take_at o (drop (length o) s) (length o) refl

-- the first k bytes are a message, where the verdict is that k bytes are one
abbrev Put : List ℕ → List ℕ → Standing → Type 0
Put o s (Err Short) = Unit {0}
Put o s (Err Failed) = Unit {0}
Put o s (Ok k) = (ds : List ℕ) × (b : List ℕ) × Parts ds b × (take k s ≡ message o ds b)

-- digits that could be a length's
record Digits (ds : List ℕ) : Type 0 where
  only : all_in 48 57 ds ≡ true
  some : 1 ≤ length ds
  few : length ds ≤ 4

module _ (o s : List ℕ) where
  whole-put : (ds : List ℕ) (at : ℕ) → Digits ds → 5 ≤ digits ds → digits ds ≤ 4072
      → take at s ≡ o ++ bytes_of "9=" ++ ds ++ bytes_of "|" → Put o s (judge_whole at (digits ds) s)
  unfolding judge_whole
  whole-put ds at d h5 hm pre =
      let n = digits ds in
      let b = part at n s in
      let sealed = agree (trailer_of (check_sum (take (at + n) s))) (drop (at + n) s) in
      of-cond (Put o s) (ltb (length s) (at + n + 7)) (λ e. tt)
      (λ e. of-cond (Put o s) (body_ok b && sealed)
      (λ f.
      let l = ltb-false (length s) (at + n + 7) e in
      let w = and_both (body_ok b) sealed f in
      let k : length b ≡ n = length_part at n s (omega arith) in
      let m : take (at + n) s ≡ before o ds b = take-add at n s ∙ ap (λ (x : List ℕ). x ++ b) pre in
      let t : agree (trailer_of (check_sum (before o ds b))) (drop (at + n) s) ≡ true = rw m at w.1 in
      let c : take 7 (drop (at + n) s) ≡ trailer_of (check_sum (before o ds b)) =
      agree-take (trailer_of (check_sum (before o ds b))) (drop (at + n) s) (omega (arith, length-drop (at + n) s)) t in (
        ds,
        b,
        record { only = d.only; some = d.some; few = d.few; value = sym k; low = omega arith; high = omega arith; body = w.0 },
        take-add (at + n) 7 s ∙ ap₂ (λ (x y : List ℕ). x ++ y) m c,
      ))
      (λ f. tt))

  length-put : (ds : List ℕ) (at : ℕ) → Digits ds
      → take at s ≡ o ++ bytes_of "9=" ++ ds ++ bytes_of "|" → Put o s (judge_length at (digits ds) s)
  unfolding judge_length
  length-put ds at d pre =
      of-cond (Put o s) (between 5 4072 (digits ds))
      (λ e. whole-put ds at d (between-low 5 4072 (digits ds) e) (between-high 5 4072 (digits ds) e) pre) (λ e. tt)

  digits-put : (at : ℕ) → at ≡ length o + 2 → agree (o ++ bytes_of "9=") s ≡ true → Put o s (judge_digits at s)
  unfolding judge_digits
  digits-put at h opened =
      let d = digit_run (drop at s) in
      let ds = part at d s in
      let mark = eqb (get_or s (at + d) 0) 1 in
      of-cond (Put o s) (ltb 4 d) (λ e. tt)
      (λ e. of-cond (Put o s) (leb (length s) (at + d)) (λ f. tt)
      (λ f. of-cond (Put o s) (leb 1 d && mark)
      (λ g.
      let w = and_both (leb 1 d) mark g in
      let few = ltb-false 4 d e in
      let there : at + d < length s = leb-false (length s) (at + d) f in
      let some = leb-true 1 d w.0 in
      let k : length ds ≡ d = length_part at d s (omega arith) in
      let head : length (o ++ bytes_of "9=") ≡ at = omega (arith, length-append o (bytes_of "9=")) in
      let first : take at s ≡ o ++ bytes_of "9=" =
      rw head at (agree-take (o ++ bytes_of "9=") s (omega arith) opened) in
      let bar : get_or s (at + d) 0 ≡ 1 = eqb-true (get_or s (at + d) 0) 1 w.1 in
      let pre : take (at + d + 1) s ≡ o ++ bytes_of "9=" ++ ds ++ bytes_of "|" =
      rw (add-one (at + d)) (take-suc s (at + d) 0 there ∙ rw (bar, take-add at d s, first)) in
      length-put ds (at + d + 1) (record { only = run_in_lem 48 57 (drop at s); some = omega arith; few = omega arith }) pre)
      (λ g. tt)))

  judge-put : Put o s (judge_opening o s)
  unfolding judge_opening
  judge-put = of-cond (Put o s) (agree (o ++ bytes_of "9=") s) (λ e. digits-put (length o + 2) refl e) (λ e. tt)

-- a message of n bytes at the front of s: its parts, with the body that is found in it, and what follows
pub record Made (o s : List ℕ) (n : ℕ) : Type 0 where
  pub ds : List ℕ
  pub rest : List ℕ
  pub parts : Parts ds (body_by o n s)
  pub whole : s ≡ message o ds (body_by o n s) ++ rest
  pub size : n ≡ length (message o ds (body_by o n s))

made : (o s : List ℕ) (n : ℕ) → n ≤ length s → Put o s (Ok n) → Made o s n
made o s n h w =
    let ds = w.0 in
    let b = w.1 in
    let p = w.2 in
    let e : take n s ≡ message o ds b = w.3 in
    let size : n ≡ length (message o ds b) = sym (length-take-le n s h) ∙ ap length e in
    let whole : s ≡ message o ds b ++ drop n s = sym (take-append-drop n s) ∙ ap (λ (l : List ℕ). l ++ drop n s) e in
    let found : b ≡ body_by o n s =
    sym (body-found o ds b (drop n s) p) ∙ ap₂ (body_by o) (sym size) (sym whole) in
    record {
      ds = ds;
      rest = drop n s;
      parts = subst (Parts ds) found p;
      whole = whole ∙ ap (λ (x : List ℕ). message o ds x ++ drop n s) found;
      size = size ∙ ap (λ (x : List ℕ). length (message o ds x)) found;
    }

pub sound : (o s : List ℕ) (n : ℕ) → found_by o s ≡ Framed n → Made o s n
unfolding found_by
sound o s n e =
    made o s n (framed-by-fine o s n e).2 (subst (Put o s) (answered-framed (judge_opening o s) (skip_of o s) n e) (judge-put o s))

-- ---- later bytes
module _ (o s : List ℕ) (n : ℕ) (e : found_by o s ≡ Framed n) where
  abbrev b : List ℕ
  b = body_by o n s

  longer : (t : List ℕ) → s ++ t ≡ message o (sound o s n e).ds b ++ ((sound o s n e).rest ++ t)
  longer t =
      let m = sound o s n e in
      ap (λ (l : List ℕ). l ++ t) m.whole ∙ append_assoc (message o m.ds b) m.rest t

  pub framed-longer : (t : List ℕ) → found_by o (s ++ t) ≡ Framed n
  framed-longer t =
      let m = sound o s n e in
      ap (found_by o) (longer t) ∙ complete o m.ds b (m.rest ++ t) m.parts ∙ ap Framed (sym m.size)

  pub body-longer : (t : List ℕ) → body_by o n (s ++ t) ≡ b
  body-longer t =
      let m = sound o s n e in
      ap₂ (body_by o) m.size (longer t) ∙ body-found o m.ds b (m.rest ++ t) m.parts

  alone : take n s ≡ message o (sound o s n e).ds b ++ []
  alone =
      let m = sound o s n e in
      let x = message o m.ds b in
      ap (take n) m.whole ∙ take_at x m.rest n (sym m.size) ∙ sym (append-nil x)

  pub framed-alone : found_by o (take n s) ≡ Framed n
  framed-alone =
      let m = sound o s n e in
      ap (found_by o) alone ∙ complete o m.ds b [] m.parts ∙ ap Framed (sym m.size)

  pub body-alone : body_by o n (take n s) ≡ b
  body-alone =
      let m = sound o s n e in
      ap₂ (body_by o) m.size alone ∙ body-found o m.ds b [] m.parts
