-- Laws of a text in a field of fixed width: its length, that it reads back, that it is well formed, and that a well-formed field is no other.
use Prim.Native.Nat.{ℕ, zero, suc, ◌+◌, ◌-◌, ◌≤◌, ◌<◌}
use mathlib.Core.Path.{◌≡◌, refl, ap, sym, ◌∙◌}
use mathlib.Core.List.{List, [], ◌∷◌, ◌++◌, append_assoc}
use mathlib.Core.Bool.{true, false, ◌&&◌}
use native.Mathlib.Numerals.{add-one}
use native.Mathlib.Omega.{arith}
use lib.Dec.{leb}
use lib.ListN.{length, take, drop, get_or, set, replicate, length-append, length-replicate, length-drop, take-append-drop}
use lib.Seq.{take-append_seam, drop-append_seam, length-take-le}
use borrow.Author.Tests.{le-leb, lt-leb, leb-true}
use Rattle.octet.specs.Bytes.{between, all_in, same, part}
use Rattle.octet.specs.Splice.{splice}
use Rattle.octet.specs.Padded.{fits_width, padded, PutsPadded, text_of, padded_ok}
use Rattle.octet.proofs.Cases.{and_both, and_left, and_right, and-make, and-no-left, bool-ext}
use Rattle.octet.proofs.Lists.{is-between, between-low, between-high, same_true, same_of, fits-true, fits-false, set-splice, splice-join, splice-out, splice-read}

-- ---- fits_width
pub fits_width_lem : (width : ℕ) (t : List ℕ) → length t < width → length t ≤ 255 → fits_width width t ≡ true
fits_width_lem width t h b = and-make (leb (length t + 1) width) (leb (length t) 255) (le-leb (length t + 1) width (omega arith)) (le-leb (length t) 255 b)

pub unfit-width : (width : ℕ) (t : List ℕ) → width ≤ length t → fits_width width t ≡ false
unfit-width width t h = and-no-left (leb (length t + 1) width) (leb (length t) 255) (lt-leb (length t + 1) width (omega arith))

pub fits-room : (width : ℕ) (t : List ℕ) → fits_width width t ≡ true → length t < width
fits-room width t e = omega (arith, leb-true (length t + 1) width (and_left (leb (length t + 1) width) (leb (length t) 255) e))

pub fits_byte : (width : ℕ) (t : List ℕ) → fits_width width t ≡ true → length t ≤ 255
fits_byte width t e = leb-true (length t) 255 (and_right (leb (length t + 1) width) (leb (length t) 255) e)

-- ---- the field of a text
pub padded-length : (width : ℕ) (t : List ℕ) → fits_width width t ≡ true → length (padded width t) ≡ width
unfolding padded
padded-length width t e = simp (length-append, length-replicate) (omega (arith, fits-room width t e))

-- it reads back, whatever stands after it
pub padded-back : (width : ℕ) (t : List ℕ) → text_of (padded width t) ≡ t
unfolding padded text_of
padded-back width t = take-append_seam t (replicate (width - 1 - length t) 0)

pub padded-back-then : (width : ℕ) (t rest : List ℕ) → text_of (padded width t ++ rest) ≡ t
unfolding padded text_of
padded-back-then width t rest =
    ap (take (length t)) (append_assoc t (replicate (width - 1 - length t) 0) rest)
    ∙ take-append_seam t (replicate (width - 1 - length t) 0 ++ rest)

-- and where it was written over other bytes
pub padded-written : (width at : ℕ) (t d : List ℕ) → fits_width width t ≡ true → at + width ≤ length d → text_of (part at width (splice d at (padded width t))) ≡ t
padded-written width at t d e room =
    let l = padded-length width t e in
    ap text_of
    (ap (λ (k : ℕ). part at k (splice d at (padded width t))) (sym l) ∙ splice-read d at (padded width t) (omega (arith, l)))
    ∙ padded-back width t

-- so one field is of one text
pub padded-one : (width : ℕ) (a b : List ℕ) → padded width a ≡ padded width b → a ≡ b
padded-one width a b e = sym (padded-back width a) ∙ ap text_of e ∙ padded-back width b

pub same-padded : (width : ℕ) (a b : List ℕ) → same (padded width a) (padded width b) ≡ same a b
same-padded width a b =
    bool-ext (same (padded width a) (padded width b)) (same a b)
    (λ e. same_of a b (padded-one width a b (same_true (padded width a) (padded width b) e)))
    (λ e. same_of (padded width a) (padded width b) (ap (padded width) (same_true a b e)))

-- ---- zeros
pub zeros-length : (n : ℕ) → length {A = ℕ} (replicate n 0) ≡ n
zeros-length n = length-replicate n 0

pub all_in-replicate : (low high n b : ℕ) → between low high b ≡ true → all_in low high (replicate n b) ≡ true
all_in-replicate low high zero b e = refl
all_in-replicate low high (suc n) b e = and-make (between low high b) (all_in low high (replicate n b)) e (all_in-replicate low high n b e)

pub all-zero : (s : List ℕ) → all_in 0 0 s ≡ true → s ≡ replicate (length s) 0
all-zero [] e = refl
all-zero (b ∷ s) e =
    let p = and_both (between 0 0 b) (all_in 0 0 s) e in
    let z : b ≡ 0 = omega (arith, between-high 0 0 b p.0) in
    ap (λ (x : ℕ). x ∷ s) z ∙ ap (λ (l : List ℕ). 0 ∷ l) (all-zero s p.1)

-- ---- well formed
module _ (least low high : ℕ) (f : List ℕ) where
  -- by its three parts, and the three parts of it
  pub ok-by : between least (length f - 1) (get_or f 0 0) ≡ true → all_in low high (text_of f) ≡ true → all_in 0 0 (drop (get_or f 0 0 + 1) f) ≡ true
      → padded_ok least low high f ≡ true
  unfolding padded_ok
  ok-by a b c = rw (a, b, c)

  pub ok-length : padded_ok least low high f ≡ true → between least (length f - 1) (get_or f 0 0) ≡ true
  unfolding padded_ok
  ok-length e =
      and_left (between least (length f - 1) (get_or f 0 0)) (all_in low high (text_of f))
      (and_left (between least (length f - 1) (get_or f 0 0) && all_in low high (text_of f)) (all_in 0 0 (drop (get_or f 0 0 + 1) f)) e)

  pub ok-text : padded_ok least low high f ≡ true → all_in low high (text_of f) ≡ true
  unfolding padded_ok
  ok-text e =
      and_right (between least (length f - 1) (get_or f 0 0)) (all_in low high (text_of f))
      (and_left (between least (length f - 1) (get_or f 0 0) && all_in low high (text_of f)) (all_in 0 0 (drop (get_or f 0 0 + 1) f)) e)

  pub ok-zeros : padded_ok least low high f ≡ true → all_in 0 0 (drop (get_or f 0 0 + 1) f) ≡ true
  unfolding padded_ok
  ok-zeros e = and_right (between least (length f - 1) (get_or f 0 0) && all_in low high (text_of f)) (all_in 0 0 (drop (get_or f 0 0 + 1) f)) e

-- a text in its range makes a well-formed field
pub padded-ok : (least low high width : ℕ) (t : List ℕ) → least ≤ length t → all_in low high t ≡ true → fits_width width t ≡ true
    → padded_ok least low high (padded width t) ≡ true
unfolding padded
padded-ok least low high width t l h e =
    let z : List ℕ = replicate (width - 1 - length t) 0 in
    let n : length (t ++ z) ≡ width - 1 = simp (length-append, length-replicate) (omega (arith, fits-room width t e)) in
    ok-by least low high (padded width t)
    (is-between least (suc (length (t ++ z)) - 1) (length t) l (omega (arith, fits-room width t e)))
    (rw (padded-back width t) h)
    (rw (add-one, drop-append_seam t z) (all_in-replicate 0 0 (width - 1 - length t) 0 refl))

-- a well-formed field is that of its text
pub ok-padded : (least low high : ℕ) (f : List ℕ) → 0 < length f → padded_ok least low high f ≡ true → padded (length f) (text_of f) ≡ f
unfolding padded text_of
ok-padded least low high [] h e = absurd (omega arith)
ok-padded least low high (n ∷ g) h e =
    let fits : n ≤ length g = omega (arith, between-high least (suc (length g) - 1) n (ok-length least low high (n ∷ g) e)) in
    let l : length (take n g) ≡ n = length-take-le n g fits in
    let w : suc (length g) - 1 - length (take n g) ≡ length (drop n g) = omega (arith, l, length-drop n g) in
    let z : drop n g ≡ replicate (length (drop n g)) 0 = all-zero (drop n g) (rw add-one at (ok-zeros least low high (n ∷ g) e)) in
    ap (λ (k : ℕ). length (take n g) ∷ (take n g ++ replicate k 0)) w
    ∙ ap (λ (k : ℕ). k ∷ (take n g ++ replicate (length (drop n g)) 0)) l
    ∙ ap (λ (r : List ℕ). n ∷ (take n g ++ r)) (sym z)
    ∙ ap (λ (r : List ℕ). n ∷ r) (take-append-drop n g)

-- its text is as long as its first byte says, and fits
pub ok-text-length : (least low high : ℕ) (f : List ℕ) → 0 < length f → padded_ok least low high f ≡ true → length (text_of f) ≡ get_or f 0 0
unfolding text_of
ok-text-length least low high [] h e = absurd (omega arith)
ok-text-length least low high (n ∷ g) h e =
    length-take-le n g (omega (arith, between-high least (suc (length g) - 1) n (ok-length least low high (n ∷ g) e)))

pub ok-least : (least low high : ℕ) (f : List ℕ) → 0 < length f → padded_ok least low high f ≡ true → least ≤ length (text_of f)
ok-least least low high f h e =
    omega (arith, ok-text-length least low high f h e, between-low least (length f - 1) (get_or f 0 0) (ok-length least low high f e))

pub ok-fits : (least low high : ℕ) (f : List ℕ) → 0 < length f → get_or f 0 0 ≤ 255 → padded_ok least low high f ≡ true → fits_width (length f) (text_of f) ≡ true
ok-fits least low high f h b e =
    fits_width_lem (length f) (text_of f)
    (omega (arith, ok-text-length least low high f h e, between-high least (length f - 1) (get_or f 0 0) (ok-length least low high f e)))
    (omega (arith, ok-text-length least low high f h e))

-- ---- writing it: the length byte, the text, the zeros
module _ (d : List ℕ) (at width : ℕ) (t : List ℕ) where
  -- what is answered, and what stands there then
  pub put-unfit : fits_width width t ≡ false → PutsPadded d at width t false d
  put-unfit e = (sym (rw e), sym (rw e))

  pub put-no-room : fits_width width t ≡ true → length d < at + width → PutsPadded d at width t false d
  put-no-room e h =
      let l : length d < at + length (padded width t) = omega (arith, padded-length width t e) in
      (sym (rw e (fits-false d at (padded width t) l)), sym (rw e (splice-out d at (padded width t) l)))

  whole : fits_width width t ≡ true → at + width ≤ length d
      → splice (splice (set d at (length t)) (at + 1) t) (at + 1 + length t) (replicate (width - 1 - length t) 0) ≡ splice d at (padded width t)
  unfolding padded
  whole e h =
      let room = fits-room width t e in
      ap (λ (m : List ℕ). splice (splice m (at + 1) t) (at + 1 + length t) (replicate (width - 1 - length t) 0)) (set-splice d at (length t))
      ∙ ap (λ (m : List ℕ). splice m (at + 1 + length t) (replicate (width - 1 - length t) 0)) (splice-join d at (length t ∷ []) t (omega arith))
      ∙ ap (λ (k : ℕ). splice (splice d at (length t ∷ t)) k (replicate (width - 1 - length t) 0)) (let i : at + 1 + length t ≡ at + suc (length t) = omega arith in i)
      ∙ splice-join d at (length t ∷ t) (replicate (width - 1 - length t) 0) (omega (arith, zeros-length (width - 1 - length t)))

  pub put_whole : fits_width width t ≡ true → at + width ≤ length d
      → PutsPadded d at width t true (splice (splice (set d at (length t)) (at + 1) t) (at + 1 + length t) (replicate (width - 1 - length t) 0))
  put_whole e h =
      let l : at + length (padded width t) ≤ length d = omega (arith, padded-length width t e) in
      (sym (rw e (fits-true d at (padded width t) l)), whole e h ∙ sym (rw e))
