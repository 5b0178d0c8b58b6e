-- Numbers written: decimals with no leading zeros, so many digits, prices; and that what is written reads back.
--     decimal-small, decimal-large     a number below ten is its digit; any other is the decimal of its tenth, and its last digit
--     decimals     these two, for the check to find
--     decimal-ind     what holds of every digit and of one digit more holds of every decimal
--     decimal-some, decimal-length, decimal-lead, decimal-digits     some digits, at most k below ten to the k, no leading zero, nothing but digits
--     decimal-back, decimal_injective, decimal-run, decimal-front     read back, and read at the front of what no digit follows
--     fixed-step, fixeds, tenth, tenths     a digit more in front, and the tenth of a tenth, for the check to find
--     fixed-length, fixed-digits, fixed_back, fixed-low, fixed-run, fixed-front     the same of so many digits
--     price-text .. price-back     the whole before the point, the point, four digits after it, and the price from them
--     decimal-unmarked, fixed-unmarked, price-unmarked     none has the byte that ends a field
use Rattle.std.proofs.Common.{◌≡◌, ℕ, zero, suc, ◌+◌, ◌-◌, ◌*◌, ◌/◌, ◌%◌, ◌^◌, ◌<◌, ◌≤◌, Bool, true, false, ltb, List, [], ◌∷◌, ◌++◌, length, get_or, take, drop, sym, refl, ap, ◌∙◌, append_assoc, not-suc-le-zero, zero-add, zero-mul, arith, lit<, lit≤, length-append, ltb-false, ltb-true, le-ltb, lt-ltb, add-one, pow-suc}
use native.Mathlib.Nat.{pow-succ', div-div-eq-div-mul}
use Rattle.octet.specs.Bytes.{between, all_in, until_byte}
use Rattle.octet.proofs.Cases.{and_both, and-make}
use Rattle.octet.proofs.Lists.{is-between, between-low, between-high, all_in-append, until-in}
use Rattle.text.proofs.ReadLaws.{run-digits, front-digits}
use Rattle.octet.proofs.Places.{value-append, value_after, value-places, places-length, places-in}
use lib.ListN.{get_or-append}
use lib.Seq.{take-append_seam, drop-append-add, get_or-append_seam}
use Rattle.text.specs.Decimal.{decimal_by, decimal, digits, digit_run, digits_at_front, fixed, price_text}

-- one more digit, where there is one
by-small : (k n : ℕ) → n < 10 → decimal_by (suc k) n ≡ (48 + n) ∷ []
unfolding decimal_by
by-small k n h = rw (lt-ltb n 10 h, decimal_by)

by-large : (k n : ℕ) → 10 ≤ n → decimal_by (suc k) n ≡ decimal_by k (n / 10) ++ (48 + n % 10) ∷ []
unfolding decimal_by
by-large k n h = rw (le-ltb n 10 h, decimal_by)

-- enough is enough
by-same : (k m n : ℕ) → n < k → n < m → decimal_by k n ≡ decimal_by m n
by-same zero m n h g = absurd (not-suc-le-zero h)
by-same (suc k) zero n h g = absurd (not-suc-le-zero g)
by-same (suc k) (suc m) n h g = by (λ l. by-same k m (n / 10) (omega arith) (omega arith)) (ltb n 10) refl where
  by : (10 ≤ n → decimal_by k (n / 10) ≡ decimal_by m (n / 10)) → (t : Bool) → ltb n 10 ≡ t → decimal_by (suc k) n ≡ decimal_by (suc m) n
  by rest true e = by-small k n (ltb-true n 10 e) ∙ sym (by-small m n (ltb-true n 10 e))
  by rest false e =
      let l : 10 ≤ n = ltb-false n 10 e in
      by-large k n l
      ∙ ap (λ (d : List ℕ). d ++ (48 + n % 10) ∷ []) (rest l)
      ∙ sym (by-large m n l)

pub decimal-small : (n : ℕ) → n < 10 → decimal n ≡ (48 + n % 10) ∷ []
unfolding decimal
decimal-small n h = by-small n n h ∙ ap (λ (k : ℕ). (48 + k) ∷ []) (omega arith)

pub decimal-large : (n : ℕ) → 10 ≤ n → decimal n ≡ decimal (n / 10) ++ (48 + n % 10) ∷ []
unfolding decimal
decimal-large n h =
    by-large n n h
    ∙ ap (λ (d : List ℕ). d ++ (48 + n % 10) ∷ []) (by-same n (suc (n / 10)) (n / 10) (omega arith) (omega arith))

pub ruleset decimals = (decimal-small, decimal-large)

-- what holds of a digit, and of a number's decimal with one more digit, holds of every decimal
module _ (P : ℕ → List ℕ → Type 0) (small : (n : ℕ) → n < 10 → P n ((48 + n) ∷ [])) (large : (n : ℕ) (l : List ℕ) → 10 ≤ n → P (n / 10) l → P n (l ++ (48 + n % 10) ∷ [])) where
  by-ind : (k n : ℕ) → n < k → P n (decimal_by k n)
  by-ind zero n h = absurd (not-suc-le-zero h)
  by-ind (suc k) n h = by (λ l. by-ind k (n / 10) (omega arith)) (ltb n 10) refl where
    by : (10 ≤ n → P (n / 10) (decimal_by k (n / 10))) → (t : Bool) → ltb n 10 ≡ t → P n (decimal_by (suc k) n)
    by rest true e = rw (by-small k n (ltb-true n 10 e)) (small n (ltb-true n 10 e))
    by rest false e = rw (by-large k n (ltb-false n 10 e)) (large n _ (ltb-false n 10 e) (rest (ltb-false n 10 e)))

  pub decimal-ind : (n : ℕ) → P n (decimal n)
  unfolding decimal
  decimal-ind n = by-ind (suc n) n (omega arith)

pub decimal-some : (n : ℕ) → 1 ≤ length (decimal n)
decimal-some = decimal-ind (λ (n : ℕ) (l : List ℕ). 1 ≤ length l) (λ n h. omega arith) (λ n l h e. simp length-append (omega arith))

one-digit : (k n : ℕ) → n < 10 → length (decimal n) ≤ suc k
one-digit k n h = rw (decimal-small n h) (omega arith)

pub decimal-length : (k n : ℕ) → n < 10 ^ suc k → length (decimal n) ≤ suc k
decimal-length zero n h = one-digit zero n h
decimal-length (suc k) n h =
    by (λ g. decimal-length k (n / 10) g) (ltb n 10) refl where
      by : (n / 10 < 10 ^ suc k → length (decimal (n / 10)) ≤ suc k) → (t : Bool) → ltb n 10 ≡ t → length (decimal n) ≤ suc (suc k)
      by rest true e = one-digit (suc k) n (ltb-true n 10 e)
      by rest false e =
          let g : n < 10 * 10 ^ suc k = rw pow-succ' at h in
          let l : n / 10 < 10 ^ suc k = omega arith in
          let r = rest l in
          rw (decimal-large n (ltb-false n 10 e)) (simp length-append (omega arith))

-- a decimal is digits, and begins with 0 only where it is 0
pub decimal-lead : (n : ℕ) → (1 ≤ length (decimal n)) × (1 ≤ n → 49 ≤ get_or (decimal n) 0 0)
decimal-lead = decimal-ind (λ (n : ℕ) (l : List ℕ). (1 ≤ length l) × (1 ≤ n → 49 ≤ get_or l 0 0))
    (λ n h. (omega arith, λ g. omega arith))
    (λ n l h e.
    let a = e.0 in
    let b : 49 ≤ get_or l 0 0 = e.1 (omega arith) in
    (simp length-append (omega arith), λ g. rw (get_or-append l ((48 + n % 10) ∷ []) 0 0 (omega arith)) b))

pub decimal-digits : (n : ℕ) → all_in 48 57 (decimal n) ≡ true
decimal-digits = decimal-ind (λ (n : ℕ) (l : List ℕ). all_in 48 57 l ≡ true)
    (λ n h. and-make _ true (is-between 48 57 (48 + n) (omega arith) (omega arith)) refl)
    (λ n l h e. all_in-append 48 57 l ((48 + n % 10) ∷ []) ∙ and-make _ _ e (and-make _ true (is-between 48 57 (48 + n % 10) (omega arith) (omega arith)) refl))

-- ---- read back

pub decimal-back : (n : ℕ) → digits (decimal n) ≡ n
decimal-back = decimal-ind (λ (n : ℕ) (l : List ℕ). digits l ≡ n)
    (λ n h. omega arith)
    (λ n l h e. value-append 10 48 0 l ((48 + n % 10) ∷ []) ∙ rw e (omega arith))

pub decimal_injective : (m n : ℕ) → decimal m ≡ decimal n → m ≡ n
decimal_injective m n h = sym (decimal-back m) ∙ ap digits h ∙ decimal-back n

-- where no digit follows
pub decimal-run : (n : ℕ) (t : List ℕ) → digit_run t ≡ 0 → digit_run (decimal n ++ t) ≡ length (decimal n)
decimal-run n t h = run-digits (decimal n) t (decimal-digits n) h

pub decimal-front : (most k n : ℕ) (t : List ℕ) → digit_run t ≡ 0 → n < 10 ^ suc k → suc k ≤ most → suc k ≤ 9
    → digits_at_front most (decimal n ++ t) ≡ record { len = length (decimal n); value = n }
decimal-front most k n t h g a b =
    let l = decimal-length k n g in
    front-digits most (decimal n) t (decimal-digits n) h (omega arith) (omega arith)
    ∙ ap (λ (v : ℕ). record { len = length (decimal n); value = v }) (decimal-back n)

-- ---- so many digits

pub fixed-step : (width n : ℕ) → 0 < width → fixed width n ≡ (48 + n / 10 ^ (width - 1) % 10) ∷ fixed (width - 1) n
fixed-step zero n h = absurd (not-suc-le-zero h)
fixed-step (suc w) n h = let e : suc w - 1 ≡ w = omega arith in rw e

pub ruleset fixeds = (fixed-step)

-- a tenth of the tenths so far
pub tenth : (n i r : ℕ) → r ≡ n / 10 ^ i → r / 10 ≡ n / 10 ^ (i + 1)
tenth n i r h = rw (h, add-one, pow-suc) (div-div-eq-div-mul _ _ _)

pub ruleset tenths = (tenth)

pub fixed-length : (width n : ℕ) → length (fixed width n) ≡ width
fixed-length = places-length 10 48

pub fixed-digits : (width n : ℕ) → all_in 48 57 (fixed width n) ≡ true
fixed-digits width n = places-in 10 48 (lit< tt) 57 width n (lit≤ tt)

pub fixed_back : (width n : ℕ) → n < 10 ^ width → digits (fixed width n) ≡ n
fixed_back width n h = value-places 10 48 (lit< tt) width n h

-- the lowest digits, of any number
pub fixed-low : (width n : ℕ) → digits (fixed width n) ≡ n % 10 ^ width
fixed-low width n = value_after 10 48 (lit< tt) width 0 n ∙ rw (zero-mul, zero-add)

pub fixed-run : (width n : ℕ) (t : List ℕ) → digit_run t ≡ 0 → digit_run (fixed width n ++ t) ≡ width
fixed-run width n t h = run-digits (fixed width n) t (fixed-digits width n) h ∙ fixed-length width n

pub fixed-front : (most width n : ℕ) (t : List ℕ) → digit_run t ≡ 0 → width ≤ most → width ≤ 9
    → digits_at_front most (fixed width n ++ t) ≡ record { len = width; value = n % 10 ^ width }
fixed-front most width n t h a b =
    let l = fixed-length width n in
    front-digits most (fixed width n) t (fixed-digits width n) h (omega arith) (omega arith)
    ∙ ap (λ (k : ℕ). record { len = k; value = digits (fixed width n) }) l
    ∙ ap (λ (v : ℕ). record { len = width; value = v }) (fixed-low width n)

-- ---- no digit is the byte that ends a field
pub decimal-unmarked : (n : ℕ) → until_byte 1 (decimal n) ≡ length (decimal n)
decimal-unmarked n = until-in 1 48 57 (decimal n) (decimal-digits n) refl

pub fixed-unmarked : (width n : ℕ) → until_byte 1 (fixed width n) ≡ length (fixed width n)
fixed-unmarked width n = until-in 1 48 57 (fixed width n) (fixed-digits width n) refl

wider : (s : List ℕ) → all_in 48 57 s ≡ true → all_in 46 57 s ≡ true
wider [] h = refl
wider (b ∷ s) h =
    let e = and_both (between 48 57 b) (all_in 48 57 s) h in
    let l : 46 ≤ b = omega (arith, between-low 48 57 b e.0) in
    and-make _ _ (is-between 46 57 b l (between-high 48 57 b e.0)) (wider s e.1)

-- ---- prices, as a reader of digits, a point and digits sees them

module _ (p : ℕ) where
  abbrev whole : List ℕ
  whole = decimal (p / 10000)

  pub price-text : price_text p ≡ whole ++ 46 ∷ fixed 4 p
  unfolding price_text
  price-text = append_assoc whole (46 ∷ []) (fixed 4 p)

  pub price-length : length (price_text p) ≡ length whole + 5
  price-length = rw price-text (simp length-append (omega arith))

  pub price-run : digit_run (price_text p) ≡ length whole
  price-run = rw price-text (decimal-run (p / 10000) (46 ∷ fixed 4 p) refl)

  pub price-whole : take (length whole) (price_text p) ≡ whole
  price-whole = rw price-text (take-append_seam whole (46 ∷ fixed 4 p))

  pub price-point : get_or (price_text p) (length whole) 0 ≡ 46
  price-point = rw price-text (get_or-append_seam whole 46 (fixed 4 p) 0)

  pub price-after : drop (length whole + 1) (price_text p) ≡ fixed 4 p
  price-after = rw price-text (drop-append-add whole (46 ∷ fixed 4 p) 1)

  -- the number before the point and the four digits after it give the price back
  pub price-back : digits whole * 10000 + digits (fixed 4 p) ≡ p
  price-back = rw (decimal-back (p / 10000), fixed-low 4 p) (omega arith)

  pub price-bytes : all_in 46 57 (price_text p) ≡ true
  price-bytes =
      rw price-text (all_in-append 46 57 whole (46 ∷ fixed 4 p) ∙ and-make _ _ (wider whole (decimal-digits (p / 10000))) (wider (fixed 4 p) (fixed-digits 4 p)))

pub price-unmarked : (p : ℕ) → until_byte 1 (price_text p) ≡ length (price_text p)
price-unmarked p = until-in 1 46 57 (price_text p) (price-bytes p) refl
