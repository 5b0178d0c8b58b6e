-- Laws of numbers in places, stated once over base, width and order: what is written reads back, and how long it is.
use Prim.Native.Nat.{ℕ, zero, suc, ◌+◌, ◌-◌, ◌*◌, ◌/◌, ◌%◌, ◌^◌, ◌≤◌, ◌<◌}
use mathlib.Core.Path.{◌≡◌, refl, ap, sym, ◌∙◌}
use mathlib.Core.List.{List, [], ◌∷◌, ◌++◌, reverse, reverse-append, reverse-reverse}
use mathlib.Core.Bool.{true, false}
use native.Mathlib.Nat.{pow-zero, pow-suc, pow-succ', one-le-pow, mul-one, zero-mul, mod-one, div-one, add-zero, zero-add, add-mul, mul_assoc, add_assoc, add_comm, sub-zero, add-sub_cancel_left, mod-lt, mod-eq_of_lt, div-div-eq-div-mul, lt_of_lt_of_le, pow-le-pow_right}
use native.Mathlib.Numerals.{add-one}
use native.Mathlib.Omega.{arith}
use lib.Arith.{mod-mul, digits_lt, digits_div, digits_mod}
use lib.Seq.{take_all}
use lib.Dec.{leb, lit<}
use Rattle.std.specs.Int.{w32, w64, from_le_bytes, from_be_bytes, bytes_high_first, byte_at}
use borrow.Author.Tests.{le-leb, lt-leb}
use lib.ListN.{length, take, drop, get_or, replicate, length-reverse, length-drop, length-append, length-replicate, take-append-drop}
use Rattle.octet.specs.Bytes.{between, all_in, same, part}
use Rattle.octet.specs.Places.{value_of, places_of, Order, HighFirst, LowFirst, ordered, number_bytes, number_in, word_at, high, big_endian}
use Rattle.octet.specs.Splice.{splice}
use Rattle.octet.proofs.Cases.{cond-true, cond-false, and_both, and-make}
use Rattle.octet.proofs.Lists.{drop-step, part-add, length_part, same_false, is-between, between-low, between-high, splice-read, all_in-reverse}

-- ---- lengths
pub places-length : (base nought width n : ℕ) → length (places_of base nought width n) ≡ width
places-length base nought zero n = refl
places-length base nought (suc width) n = ap suc (places-length base nought width n)

-- ---- places one by one
-- the last place is the lowest
pub places-last : (base nought width n : ℕ) → places_of base nought (suc width) n ≡ places_of base nought width (n / base) ++ ((nought + n % base) ∷ [])
places-last base nought zero n = rw (pow-zero, div-one)
places-last base nought (suc width) n =
    let e : n / base ^ suc width ≡ n / base / base ^ width = rw pow-succ' (sym (div-div-eq-div-mul n base (base ^ width))) in
    ap (λ (k : ℕ). (nought + k % base) ∷ places_of base nought (suc width) n) e
    ∙ ap (λ (l : List ℕ). (nought + n / base / base ^ width % base) ∷ l) (places-last base nought width n)

pub value-append : (base nought v : ℕ) (s t : List ℕ) → value_of base nought v (s ++ t) ≡ value_of base nought (value_of base nought v s) t
value-append base nought v [] t = refl
value-append base nought v (b ∷ s) t = value-append base nought (v * base + (b - nought)) s t

-- what stood before is carried up by as many places
pub value-split : (base nought v : ℕ) (s : List ℕ) → value_of base nought v s ≡ v * base ^ length s + value_of base nought 0 s
value-split base nought v [] = sym (rw (pow-zero, mul-one) (add-zero v))
value-split base nought v (b ∷ s) =
    let d = b - nought in
    let p = base ^ length s in
    let front : value_of base nought (0 * base + d) s ≡ d * p + value_of base nought 0 s =
    rw (zero-mul, zero-add) (value-split base nought d s) in
    value-split base nought (v * base + d) s
    ∙ rw (front, pow-succ', add-mul, mul_assoc) (add_assoc (v * (base * p)) (d * p) (value_of base nought 0 s))

-- one more place fits one more place
pub more-fits : (base i : ℕ) {v d : ℕ} → v < base ^ i → d < base → v * base + d < base ^ (i + 1)
more-fits base i {v} {d} hv hd = rw (add-one, pow-suc) (digits_lt hv hd)

-- a number of up to n places fits below base ^ n
pub below-pow : (base n : ℕ) {v i : ℕ} → 0 < base → v < base ^ i → i ≤ n → v < base ^ n
below-pow base n {v} {i} hb h l = lt_of_lt_of_le h (pow-le-pow_right hb l)

-- ---- there and back, at every base and width
module _ (base nought : ℕ) (some : 0 < base) where
  pub value_after : (k v n : ℕ) → value_of base nought v (places_of base nought k n) ≡ v * base ^ k + n % base ^ k
  value_after zero v n = sym (rw pow-zero (rw (mul-one, mod-one) (add-zero v)))
  value_after (suc k) v n =
      let x = n / base ^ k % base in
      ap (λ (d : ℕ). value_of base nought (v * base + d) (places_of base nought k n)) (add-sub_cancel_left nought x)
      ∙ value_after k (v * base + x) n
      ∙ rw (pow-succ', mod-mul n {m = base} {c = base ^ k} some (one-le-pow k base some), add-mul, mul_assoc) (add_assoc _ _ _)

  pub value-places : (width n : ℕ) → n < base ^ width → value_of base nought 0 (places_of base nought width n) ≡ n
  value-places width n h = value_after width 0 n ∙ rw (zero-mul, zero-add) (mod-eq_of_lt h)

  -- each place is one of nought to the highest
  pub places-in : (highest width n : ℕ) → nought + base ≤ highest + 1 → all_in nought highest (places_of base nought width n) ≡ true
  places-in highest zero n h = refl
  places-in highest (suc k) n h =
      let b = nought + n / base ^ k % base in
      and-make (between nought highest b) (all_in nought highest (places_of base nought k n))
      (is-between nought highest b (omega arith) (omega (arith, mod-lt (n / base ^ k) some))) (places-in highest k n h)

  -- bytes that are all places: their number is below base ^ length, and its places are they
  module _ (highest : ℕ) (fits : highest < nought + base) where
    digit-fits : (b : ℕ) → between nought highest b ≡ true → b - nought < base
    digit-fits b e = omega (arith, between-low nought highest b e, between-high nought highest b e)

    pub value-below : (s : List ℕ) → all_in nought highest s ≡ true → value_of base nought 0 s < base ^ length s
    value-below [] e = rw pow-zero (lit< tt)
    value-below (b ∷ s) e =
        let p = and_both (between nought highest b) (all_in nought highest s) e in
        rw (zero-mul, zero-add, value-split base nought (b - nought) s, pow-succ') (digits_lt (digit-fits b p.0) (value-below s p.1))

    places-after : (v : ℕ) (s : List ℕ) → all_in nought highest s ≡ true → places_of base nought (length s) (value_of base nought v s) ≡ s
    places-after v [] e = refl
    places-after v (b ∷ s) e =
        let p = and_both (between nought highest b) (all_in nought highest s) e in
        let w = v * base + (b - nought) in
        let up : value_of base nought w s / base ^ length s ≡ w = rw value-split (digits_div w (value-below s p.1)) in
        let low : w % base ≡ b - nought = digits_mod v (digit-fits b p.0) in
        let here : nought + value_of base nought w s / base ^ length s % base ≡ b =
        rw (up, low) (omega (arith, between-low nought highest b p.0)) in
        ap (λ (x : ℕ). x ∷ places_of base nought (length s) (value_of base nought w s)) here
        ∙ ap (λ (l : List ℕ). b ∷ l) (places-after w s p.1)

    pub places-value : (s : List ℕ) → all_in nought highest s ≡ true → places_of base nought (length s) (value_of base nought 0 s) ≡ s
    places-value s e = places-after 0 s e

-- ---- numbers in bytes, in both orders
pub ordered-twice : (order : Order) (s : List ℕ) → ordered order (ordered order s) ≡ s
ordered-twice HighFirst s = refl
ordered-twice LowFirst s = reverse-reverse s

pub ordered-length : (order : Order) (s : List ℕ) → length (ordered order s) ≡ length s
ordered-length HighFirst s = refl
ordered-length LowFirst s = length-reverse s

pub ordered-in : (order : Order) (low high : ℕ) (s : List ℕ) → all_in low high (ordered order s) ≡ all_in low high s
ordered-in HighFirst low high s = refl
ordered-in LowFirst low high s = all_in-reverse low high s

pub number-length : (order : Order) (width n : ℕ) → length (number_bytes order width n) ≡ width
unfolding number_bytes
number-length order width n = ordered-length order (places_of 256 0 width n) ∙ places-length 256 0 width n

pub number-back : (order : Order) (width n : ℕ) → n < 256 ^ width → number_in order (number_bytes order width n) ≡ n
unfolding number_bytes number_in
number-back order width n h =
    ap (value_of 256 0 0) (ordered-twice order (places_of 256 0 width n)) ∙ value-places 256 0 (lit< tt) width n h

-- the same of the bytes at a place of a longer list
pub number_read : (order : Order) (width n at : ℕ) (s : List ℕ) → n < 256 ^ width → part at width s ≡ number_bytes order width n → number_in order (part at width s) ≡ n
number_read order width n at s h e = rw e (number-back order width n h)

-- the same of bytes that were written over others
pub number-written : (order : Order) (width n at : ℕ) (d : List ℕ) → n < 256 ^ width → at + width ≤ length d
    → number_in order (part at width (splice d at (number_bytes order width n))) ≡ n
number-written order width n at d h room =
    let l = number-length order width n in
    number_read order width n at (splice d at (number_bytes order width n)) h
    (ap (λ (k : ℕ). part at k (splice d at (number_bytes order width n))) (sym l) ∙ splice-read d at (number_bytes order width n) (omega (arith, l)))

-- and of bytes: their number is below 256 ^ length, and it is written by them
pub number-below : (order : Order) (s : List ℕ) → all_in 0 255 s ≡ true → number_in order s < 256 ^ length s
unfolding number_in
number-below order s e =
    rw ordered-length at (value-below 256 0 (lit< tt) 255 (lit< tt) (ordered order s) (ordered-in order 0 255 s ∙ e))

pub bytes_back : (order : Order) (s : List ℕ) → all_in 0 255 s ≡ true → number_bytes order (length s) (number_in order s) ≡ s
unfolding number_bytes number_in
bytes_back order s e =
    let o = ordered order s in
    ap (λ (k : ℕ). ordered order (places_of 256 0 k (value_of 256 0 0 o))) (sym (ordered-length order s))
    ∙ ap (ordered order) (places-value 256 0 (lit< tt) 255 (lit< tt) o (ordered-in order 0 255 s ∙ e))
    ∙ ordered-twice order s

-- each byte of a number is one
pub number-in : (order : Order) (width n : ℕ) → all_in 0 255 (number_bytes order width n) ≡ true
unfolding number_bytes
number-in order width n = ordered-in order 0 255 (places_of 256 0 width n) ∙ places-in 256 0 (lit< tt) 255 width n (omega arith)

-- one number has one writing
pub number-one : (order : Order) (width m n : ℕ) → m < 256 ^ width → n < 256 ^ width → number_bytes order width m ≡ number_bytes order width n → m ≡ n
number-one order width m n hm hn e = sym (number-back order width m hm) ∙ ap (number_in order) e ∙ number-back order width n hn

-- ---- low byte first: the words by which two lists are told apart
pub low-append : (s t : List ℕ) → number_in LowFirst (s ++ t) ≡ number_in LowFirst s + number_in LowFirst t * 256 ^ length s
unfolding number_in
low-append s t =
    ap (value_of 256 0 0) (reverse-append s t)
    ∙ value-append 256 0 0 (reverse t) (reverse s)
    ∙ value-split 256 0 (value_of 256 0 0 (reverse t)) (reverse s)
    ∙ rw length-reverse (add_comm (value_of 256 0 0 (reverse t) * 256 ^ length s) (value_of 256 0 0 (reverse s)))

low_step : (s : List ℕ) (i n : ℕ) → i < length s → number_in LowFirst (part i (suc n) s) ≡ get_or s i 0 + number_in LowFirst (part (i + 1) n s) * 256
unfolding number_in
low_step s i n h =
    ap (λ (l : List ℕ). number_in LowFirst (take (suc n) l)) (drop-step s i h)
    ∙ low-append (get_or s i 0 ∷ []) (part (i + 1) n s)
    ∙ ap (λ (k : ℕ). k + number_in LowFirst (part (i + 1) n s) * 256) (rw (zero-mul, zero-add) (sub-zero (get_or s i 0)))

low-none : (s : List ℕ) (i : ℕ) → number_in LowFirst (part i 0 s) ≡ 0
unfolding number_in
low-none s i = refl

pub low-four : (s : List ℕ) (i : ℕ) → i + 4 ≤ length s
    → number_in LowFirst (part i 4 s) ≡ get_or s i 0 + get_or s (i + 1) 0 * 256 + get_or s (i + 2) 0 * 65536 + get_or s (i + 3) 0 * 16777216
low-four s i h =
    let j : i + 1 + 1 ≡ i + 2 = omega arith in
    let k : i + 2 + 1 ≡ i + 3 = omega arith in
    let a = low_step s i 3 (omega arith) in
    let b = low_step s (i + 1) 2 (omega arith) in
    let c = rw j at (low_step s (i + 1) 2 (omega arith)) in
    let d = rw k at (low_step s (i + 2) 1 (omega arith)) in
    let e = low_step s (i + 3) 0 (omega arith) in
    omega (arith, a, c, d, e, low-none s (i + 3 + 1))

pub low-eight : (s : List ℕ) (i : ℕ) → i + 8 ≤ length s
    → number_in LowFirst (part i 8 s) ≡ number_in LowFirst (part i 4 s) + number_in LowFirst (part (i + 4) 4 s) * 4294967296
low-eight s i h =
    ap (number_in LowFirst) (part-add i 4 4 s)
    ∙ low-append (part i 4 s) (part (i + 4) 4 s)
    ∙ ap (λ (k : ℕ). number_in LowFirst (part i 4 s) + number_in LowFirst (part (i + 4) 4 s) * 256 ^ k) (length_part i 4 s (omega arith))

-- the word at a place, where there are eight bytes and where there are not
pub word-there : (at : ℕ) (s : List ℕ) → at + 8 ≤ length s → number_in LowFirst (part at 8 s) ≡ word_at at s
unfolding word_at
word-there at s h = sym (cond-true (leb (at + 8) (length s)) (number_in LowFirst (part at 8 s)) 0 (le-leb (at + 8) (length s) h))

pub word_none : (at : ℕ) (s : List ℕ) → length s < at + 8 → 0 ≡ word_at at s
unfolding word_at
word_none at s h = sym (cond-false (leb (at + 8) (length s)) (number_in LowFirst (part at 8 s)) 0 (lt-leb (at + 8) (length s) h))

-- bytes that differ in a word are not the same
pub word-differs : (at : ℕ) (x y : List ℕ) → (word_at at x ≡ word_at at y → ⊥) → same x y ≡ false
word-differs at x y d = same_false x y (λ e. d (ap (word_at at) e))

-- ---- bytes as the library's `from_le_bytes`, `from_be_bytes` and `to_be_bytes` tell of them
pub little-eight : (s : List ℕ) → length s ≡ 8 → from_le_bytes w64 s ≡ number_in LowFirst s
little-eight s h =
    let e : number_in LowFirst (part 0 8 s) ≡ number_in LowFirst s = ap (number_in LowFirst) (take_all 8 s (omega arith)) in
    omega (arith, e, low-eight s 0 (omega arith), low-four s 0 (omega arith), low-four s 4 (omega arith))

-- the high one first
pub big-is : (s : List ℕ) → big_endian s ≡ value_of 256 0 0 s
unfolding number_in
big-is s = refl

-- one by one, and eight as two fours
high-step : (s : List ℕ) (i n v : ℕ) → i < length s → value_of 256 0 v (part i (suc n) s) ≡ value_of 256 0 (v * 256 + get_or s i 0) (part (i + 1) n s)
high-step s i n v h =
    ap (λ (l : List ℕ). value_of 256 0 v (take (suc n) l)) (drop-step s i h)
    ∙ ap (λ (d : ℕ). value_of 256 0 (v * 256 + d) (part (i + 1) n s)) (sub-zero (get_or s i 0))

pub high-four : (s : List ℕ) (i : ℕ) → i + 4 ≤ length s
    → big_endian (part i 4 s) ≡ get_or s i 0 * 16777216 + get_or s (i + 1) 0 * 65536 + get_or s (i + 2) 0 * 256 + get_or s (i + 3) 0
high-four s i h =
    let j : i + 1 + 1 ≡ i + 2 = omega arith in
    let k : i + 2 + 1 ≡ i + 3 = omega arith in
    let a = high-step s i 3 0 (omega arith) in
    let b = rw j at (high-step s (i + 1) 2 (0 * 256 + get_or s i 0) (omega arith)) in
    let c = rw k at (high-step s (i + 2) 1 ((0 * 256 + get_or s i 0) * 256 + get_or s (i + 1) 0) (omega arith)) in
    let d = high-step s (i + 3) 0 (((0 * 256 + get_or s i 0) * 256 + get_or s (i + 1) 0) * 256 + get_or s (i + 2) 0) (omega arith) in
    big-is (part i 4 s) ∙ a ∙ b ∙ c ∙ d ∙ omega arith

pub high-eight : (s : List ℕ) → length s ≡ 8 → big_endian s ≡ big_endian (part 0 4 s) * 4294967296 + big_endian (part 4 4 s)
unfolding number_in
high-eight s h =
    let n : length (drop 4 s) ≡ 4 = omega (arith, length-drop 4 s) in
    ap (value_of 256 0 0) (sym (take-append-drop 4 s))
    ∙ value-append 256 0 0 (take 4 s) (drop 4 s)
    ∙ value-split 256 0 (value_of 256 0 0 (take 4 s)) (drop 4 s)
    ∙ ap (λ (k : ℕ). value_of 256 0 0 (take 4 s) * 256 ^ k + value_of 256 0 0 (drop 4 s)) n
    ∙ ap (λ (l : List ℕ). value_of 256 0 0 (take 4 s) * 4294967296 + value_of 256 0 0 l) (sym (take_all 4 (drop 4 s) (omega arith)))

pub big-four : (s : List ℕ) → length s ≡ 4 → from_be_bytes w32 s ≡ big_endian s
big-four s h =
    let e : big_endian (part 0 4 s) ≡ big_endian s = ap big_endian (take_all 4 s (omega arith)) in
    omega (arith, e, high-four s 0 (omega arith))

pub big-eight : (s : List ℕ) → length s ≡ 8 → from_be_bytes w64 s ≡ big_endian s
big-eight s h = omega (arith, high-eight s h, high-four s 0 (omega arith), high-four s 4 (omega arith))

-- zeros before a number do not count, so fewer bytes than n are read with zeros before them
big-zeros : (k : ℕ) (s : List ℕ) → big_endian (replicate k 0 ++ s) ≡ big_endian s
unfolding number_in
big-zeros zero s = refl
big-zeros (suc k) s = big-zeros k s

abbrev pub filled_up : ℕ → List ℕ → List ℕ
filled_up n s = replicate (n - length s) 0 ++ s

filled-length : (n : ℕ) (s : List ℕ) → length s ≤ n → length (filled_up n s) ≡ n
filled-length n s h = simp (length-append, length-replicate) (omega arith)

pub four-filled : (s : List ℕ) → length s ≤ 4 → from_be_bytes w32 (filled_up 4 s) ≡ big_endian s
four-filled s h = big-four (filled_up 4 s) (filled-length 4 s h) ∙ big-zeros (4 - length s) s

pub eight-filled : (s : List ℕ) → length s ≤ 8 → from_be_bytes w64 (filled_up 8 s) ≡ big_endian s
eight-filled s h = big-eight (filled_up 8 s) (filled-length 8 s h) ∙ big-zeros (8 - length s) s

-- a number's bytes
byte-is : (k n : ℕ) → byte_at k n ≡ 0 + n / 256 ^ k % 256
byte-is zero n = sym (zero-add (n / 1 % 256) ∙ ap (λ (m : ℕ). m % 256) (div-one n))
byte-is (suc k) n = sym (zero-add (n / 256 ^ suc k % 256))

pub high-bytes : (width n : ℕ) → bytes_high_first width n ≡ high width n
unfolding number_bytes
high-bytes zero n = refl
high-bytes (suc width) n = ap (λ (b : ℕ). b ∷ bytes_high_first width n) (byte-is width n) ∙ ap (λ (l : List ℕ). (0 + n / 256 ^ width % 256) ∷ l) (high-bytes width n)
