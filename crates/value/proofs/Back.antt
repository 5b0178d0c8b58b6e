-- What is written is read back: numbers in decimal, numbers of a fixed width, prices.
use mathlib.Core.Path.{◌≡◌, ap, ◌∙◌}
use mathlib.Core.List.{List}
use mathlib.Core.Option.{none}
use Prim.Native.Nat.{ℕ, ◌+◌, ◌-◌, ◌*◌, ◌/◌, ◌^◌, ◌≤◌, ◌<◌}
use native.Mathlib.Omega.{arith}
use Rattle.text.specs.Decimal.{digits, decimal, fixed, price_text}
use Rattle.text.proofs.Decimals.{decimal-some, decimal-length, decimal-digits, decimal-back, fixed-length, fixed-digits, fixed_back, price-text, price-back as parts-back}
use Rattle.value.specs.Value.{bad_number, number_or, bad_price, price_in}
use Rattle.value.specs.Place.{Numeral}
use Rattle.value.specs.Readers.{number_read, price_read}
use Rattle.std.specs.Prelude.{Ok}
use Rattle.value.proofs.Numbers.{numeral-formed, number_read_lem, number-or}
use Rattle.value.proofs.Prices.{price-formed, price-parts, price-read}

-- a text of digits that writes n
read_back : (low high n : ℕ) (v : List ℕ) → bad_number v ≡ none → digits v ≡ n → low ≤ n → n ≤ high → number_read low high v ≡ Ok n
read_back low high n v e f a b = number_read_lem low high v e (omega arith) (omega arith) ∙ ap Ok f

-- ---- numbers
pub decimal-formed : (n : ℕ) → n < 10 ^ 9 → bad_number (decimal n) ≡ none
decimal-formed n h =
    numeral-formed (decimal n) (record { only = decimal-digits n; least = decimal-some n; most = decimal-length 8 n h })

pub number-back : (low high n : ℕ) → low ≤ n → n ≤ high → n < 10 ^ 9 → number_read low high (decimal n) ≡ Ok n
number-back low high n a b h = read_back low high n (decimal n) (decimal-formed n h) (decimal-back n) a b

pub number-or-back : (n : ℕ) → n < 10 ^ 9 → number_or (decimal n) ≡ n
number-or-back n h = number-or (decimal n) (decimal-formed n h) ∙ decimal-back n

-- ---- "leading zeros read": numbers of a fixed width
pub fixed-number-back : (low high width n : ℕ) → 1 ≤ width → width ≤ 9 → n < 10 ^ width → low ≤ n → n ≤ high → number_read low high (fixed width n) ≡ Ok n
fixed-number-back low high width n l m h a b =
    let e = numeral-formed (fixed width n) (record { only = fixed-digits width n; least = omega (arith, fixed-length width n); most = omega (arith, fixed-length width n) }) in
    read_back low high n (fixed width n) e (fixed_back width n h) a b

-- ---- prices
module _ (p : ℕ) (h : p < 10 ^ 11) where
  before : Numeral 1 7 (decimal (p / 10000))
  before = record { only = decimal-digits (p / 10000); least = decimal-some (p / 10000); most = decimal-length 6 (p / 10000) (omega arith) }

  after : Numeral 1 4 (fixed 4 p)
  after = record { only = fixed-digits 4 p; least = omega (arith, fixed-length 4 p); most = omega (arith, fixed-length 4 p) }

  pub price-text-formed : bad_price (price_text p) ≡ none
  price-text-formed = ap bad_price (price-text p) ∙ price-formed (decimal (p / 10000)) (fixed 4 p) before after

  pub price-in-back : price_in (price_text p) ≡ p
  price-in-back =
      ap price_in (price-text p)
      ∙ price-parts (decimal (p / 10000)) (fixed 4 p) before after
      ∙ ap (λ (n : ℕ). digits (decimal (p / 10000)) * 10000 + digits (fixed 4 p) * 10 ^ (4 - n)) (fixed-length 4 p)
      ∙ omega (arith, parts-back p)

  pub price-back : price_read (price_text p) ≡ Ok p
  price-back = price-read (price_text p) price-text-formed ∙ ap Ok price-in-back
