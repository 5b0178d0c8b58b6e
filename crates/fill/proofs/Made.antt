-- A slot that is made of a first byte and parts, whatever they are: a fill's and an entry's laws are these.
--     made-length     it has a byte more than its parts
--     part-is     part i of the slot is part i of the layout: one law for all of them
--     text-back, high-back     a text and a number that fit are read back
--     text-lawful     a text that fits, of bytes that one may have, is lawful
--     made-rest     the parts, written one after another behind the first byte
--     text-put, byte_put, time-other, time-seventeen, time-same     how the code writes a text, a number of one byte, and a time
use mathlib.Core.Path.{◌≡◌, refl, sym, ap, ◌∙◌}
use mathlib.Core.List.{List, [], ◌∷◌, ◌++◌}
use mathlib.Core.Logic.{◌⊎◌, inl, inr, ⊎_elim}
use mathlib.Core.Bool.{true, cond}
use Prim.Native.Nat.{ℕ, zero, suc, ◌+◌, ◌-◌, ◌≤◌, ◌<◌, ◌^◌}
use native.Mathlib.Nat.{zero-add, pow-zero, div-one}
use native.Mathlib.Omega.{arith}
use lib.ListN.{length, get_or, take, drop, set, replicate, replicate-append-replicate, length-append, length-take, length-replicate, get_or-eq_default}
use lib.Seq.{take_all, take_at}
use lib.Dec.{eqb}
use borrow.Author.Tests.{eq-eqb, ne_eqb, eqb-true}
use Rattle.octet.specs.Bytes.{bytes_of, all_in, part, sum_of}
use Rattle.octet.specs.Places.{HighFirst, number_bytes, number_in, high, big_endian}
use Rattle.octet.specs.Splice.{splice}
use Rattle.octet.specs.Padded.{fits_width, padded, text_of}
use Rattle.octet.proofs.Cases.{le-or-lt, of-cond, cond-true}
use Rattle.octet.proofs.Lists.{drop-step, part-past, part-second, splice-in, splice-then, splice-whole, set-splice}
use Rattle.octet.proofs.Places.{number-back}
use Rattle.octet.proofs.Padded.{fits_width_lem, padded-back, padded-ok}
use Rattle.value.specs.Value.{is_time}
use Rattle.value.proofs.Times.{time-filled}
use Rattle.parts.specs.Parts.{Part, Value, widths_of, size_of, text_field, laid}
use Rattle.parts.specs.Relaid.{filled}
use Rattle.parts.proofs.Relaying.{filled-same}
use Rattle.parts.proofs.ReadBack.{AllSized, each, laid-length, laid-part, written, written-laid}
use Rattle.fill.specs.Slot.{full_time, text_lawful}

-- a slot with that first byte, of those parts with those values
pub record Made (mark : ℕ) (ps : List Part) (vs : List Value) (s : List ℕ) : Type 0 where
  pub sized : AllSized ps
  pub laid_so : s ≡ mark ∷ laid ps vs

-- part i of any slot with those parts
abbrev pub part_in : List Part → ℕ → List ℕ → List ℕ
part_in ps i s = part (1 + sum_of (take i (widths_of ps))) (get_or (widths_of ps) i 0) s

pub text-whole : (width : ℕ) (t : List ℕ) → length t < width → text_field width t ≡ padded width t
text-whole width t h = ap (padded width) (take_all (width - 1) t (omega arith))

module _ {mark : ℕ} {ps : List Part} {vs : List Value} {s : List ℕ} (m : Made mark ps vs s) where
  pub made-length : length s ≡ 1 + size_of ps
  made-length = ap length m.laid_so ∙ omega (arith, laid-length ps vs m.sized)

  pub part-is : (i : ℕ) → part_in ps i s ≡ get_or (each ps vs) i []
  part-is i =
      ap (part_in ps i) m.laid_so
      ∙ part-second (sum_of (take i (widths_of ps))) (get_or (widths_of ps) i 0) (mark ∷ []) (laid ps vs)
      ∙ laid-part ps vs i m.sized

  pub text-is : (i width : ℕ) (t : List ℕ) → get_or (each ps vs) i [] ≡ text_field width t → length t < width → part_in ps i s ≡ padded width t
  text-is i width t e h = part-is i ∙ e ∙ text-whole width t h

  pub text-back : (i width : ℕ) (t : List ℕ) → get_or (each ps vs) i [] ≡ text_field width t → length t < width → text_of (part_in ps i s) ≡ t
  text-back i width t e h = ap text_of (text-is i width t e h) ∙ padded-back width t

  pub high-back : (i width n : ℕ) → get_or (each ps vs) i [] ≡ high width n → n < 256 ^ width → big_endian (part_in ps i s) ≡ n
  high-back i width n e h = ap big_endian (part-is i ∙ e) ∙ number-back HighFirst width n h

  pub text-lawful : (i width : ℕ) (t : List ℕ) → get_or (each ps vs) i [] ≡ text_field width t → 1 ≤ length t → length t < width → width ≤ 256 → all_in 33 126 t ≡ true
      → text_lawful (part_in ps i s) ≡ true
  text-lawful i width t e some short h g =
      ap text_lawful (text-is i width t e short) ∙ padded-ok 1 33 126 width t some g (fits_width_lem width t short (omega arith))

-- ---- made part by part

-- the parts, written one after another into lent bytes that begin with the mark: what stands after them stays
pub made-rest : (mark : ℕ) (ps : List Part) (vs : List Value) (rest : List ℕ) → AllSized ps → size_of ps ≤ length rest
    → written (mark ∷ rest) 1 ps vs ≡ mark ∷ laid ps vs ++ drop (size_of ps) rest
made-rest mark ps vs rest z h =
    let m = mark ∷ rest in
    let b = laid ps vs in
    let n : length b ≡ size_of ps = laid-length ps vs z in
    let e : 1 + length b ≡ suc (size_of ps) = omega arith in
    written-laid m 1 ps vs z (omega arith)
    ∙ splice-in m 1 b (omega arith)
    ∙ ap (λ (k : ℕ). (mark ∷ b) ++ drop k m) e

-- a number of one byte, written and read
one_byte : (n : ℕ) → n < 256 → high 1 n ≡ n ∷ []
unfolding number_bytes
one_byte n h = rw (pow-zero, div-one) (ap (λ (k : ℕ). k ∷ []) (omega arith))

pub byte_put : (d : List ℕ) (at n : ℕ) → n < 256 → set d at n ≡ splice d at (high 1 n)
byte_put d at n h = set-splice d at n ∙ ap (splice d at) (sym (one_byte n h))

pub byte-number : (at : ℕ) (s : List ℕ) → big_endian (part at 1 s) ≡ get_or s at 0
unfolding number_in
byte-number at s =
    ⊎_elim
    (λ h. rw (part-past at 1 s h) (sym (get_or-eq_default s 0 h)))
    (λ h. rw (drop-step s at h) (omega arith))
    (le-or-lt (length s) at)

-- a text that is cut to its field
cut_fits : (width : ℕ) (t : List ℕ) → 1 ≤ width → width ≤ 256 → length (take (width - 1) t) ≤ width - 1
cut_fits width t h l = rw length-take (omega arith)

pub text-put : (d : List ℕ) (at width : ℕ) (t x d' : List ℕ) → 1 ≤ width → width ≤ 256 → x ≡ take (width - 1) t
    → d' ≡ cond (fits_width width x) (splice d at (padded width x)) d → d' ≡ splice d at (text_field width t)
text-put d at width t x d' h l ex ed =
    let n = cut_fits width t h l in
    ed
    ∙ ap (λ (y : List ℕ). cond (fits_width width y) (splice d at (padded width y)) d) ex
    ∙ cond-true _ _ _ (fits_width_lem width (take (width - 1) t) (omega arith) (omega arith))

-- ---- times

pub full-length : (t : List ℕ) → (length t ≡ 17) ⊎ (length t ≡ 21) → length (full_time t) ≡ 21
full-length t (inl h) = rw (eq-eqb (length t) 17 h) (length-append t (bytes_of ".000") ∙ omega arith)
full-length t (inr h) = rw (ne_eqb (length t) 17 (λ e. omega arith)) h

pub time-whole : (t : List ℕ) → (length t ≡ 17) ⊎ (length t ≡ 21) → filled 21 (full_time t) ≡ full_time t
time-whole t h = filled-same 21 (full_time t) (full-length t h)

pub full-is-time : (t : List ℕ) → is_time t ≡ true → is_time (full_time t) ≡ true
full-is-time t e = of-cond (λ (l : List ℕ). is_time l ≡ true) (eqb (length t) 17) (λ y. time-filled t e (eqb-true (length t) 17 y)) (λ y. e)

-- a time written over zeros: what follows it stays zero
zeros-front : (n k : ℕ) → take n (replicate {A = ℕ} (n + k) 0) ≡ replicate n 0
zeros-front n k = ap (take n) (sym (replicate-append-replicate n k 0)) ∙ take_at (replicate n 0) (replicate k 0) n (length-replicate n 0)

zeros-after : (n k : ℕ) (t : List ℕ) → take n t ++ drop (length (take n t)) (replicate n 0) ≡ take n (t ++ replicate (n + k) 0)
zeros-after zero k t = refl
zeros-after (suc n) k [] = sym (zeros-front (suc n) k)
zeros-after (suc n) k (b ∷ t) =
    let e : n + suc k ≡ suc n + k = omega arith in
    ap (λ (l : List ℕ). b ∷ l) (zeros-after n (suc k) t ∙ ap (λ (m : ℕ). take n (t ++ replicate m 0)) e)

pub time-other : (t : List ℕ) → (length t ≡ 17 → ⊥) → splice (replicate 21 0) 0 (take 21 t) ≡ filled 21 (full_time t)
time-other t h =
    rw (ne_eqb (length t) 17 h)
    (splice-in (replicate 21 0) 0 (take 21 t) (rw length-take (omega arith))
    ∙ ap (λ (n : ℕ). take 21 t ++ drop n (replicate 21 0)) (zero-add (length (take 21 t)))
    ∙ zeros-after 21 0 t)

pub time-seventeen : (t : List ℕ) → length t ≡ 17 → splice (splice (replicate 21 0) 0 (take 21 t)) 17 (bytes_of ".000") ≡ filled 21 (full_time t)
time-seventeen t h =
    let n : length (t ++ bytes_of ".000") ≡ 21 = length-append t (bytes_of ".000") ∙ omega arith in
    ap (λ (x : List ℕ). splice (splice (replicate 21 0) 0 x) 17 (bytes_of ".000")) (take_all 21 t (omega arith))
    ∙ splice-then (replicate 21 0) 0 17 t (bytes_of ".000") (omega arith) (omega arith)
    ∙ splice-whole (replicate 21 0) (t ++ bytes_of ".000") n
    ∙ rw (eq-eqb (length t) 17 h) refl
    ∙ sym (time-whole t (inl h))

pub time-same : (t : List ℕ) → length t ≡ 21 → t ≡ filled 21 (full_time t)
time-same t h = sym (time-whole t (inr h) ∙ rw (ne_eqb (length t) 17 (λ e. omega arith)) refl)
