-- Decimal numbers: digits read, and numbers written "with no leading zeros".
use Rattle.std.specs.Prelude.{ℕ, zero, suc, ◌+◌, ◌/◌, ◌%◌, ◌^◌, ◌<◌, ◌≤◌, min, true, false, List, [], ◌∷◌, ◌++◌, length, take, nat_lt}
use Rattle.octet.specs.Bytes.{bytes_of, run_in, sum_of}
use Rattle.octet.specs.Places.{value_of, places_of}
use Rattle.text.specs.declared.Digits.{Digits}

-- ---- read

-- the number that digits write
abbrev pub digits : List ℕ → ℕ
digits s = value_of 10 48 0 s

-- how many digits stand at the front
abbrev pub digit_run : List ℕ → ℕ
digit_run s = run_in 48 57 s

-- the digits at the front, at most `most` of them and never more than 9: how many, and their number
abbrev pub digits_taken : ℕ → List ℕ → ℕ
digits_taken most s = min (min most 9) (digit_run s)

unfoldable pub digits_at_front : ℕ → List ℕ → Digits
digits_at_front most s = record { len = digits_taken most s; value = digits (take (digits_taken most s) s) }

-- what is read fits: no more digits than there are, than were asked for, than 9, and a number of that many
pub record Fits (most : ℕ) (s : List ℕ) (d : Digits) : Type 0 where
  pub inside : d.len ≤ length s
  pub asked : d.len ≤ most
  pub short : d.len ≤ 9
  pub small : d.value < 10 ^ 9

-- ---- written

-- the digits of n, where k is fuel: the last one is n's remainder by ten, those before it are n / 10's
unfoldable pub decimal_by : ℕ → ℕ → List ℕ
decimal_by zero n = []
decimal_by (suc k) n = elim (nat_lt n 10) [ true ↦ (48 + n) ∷ [] | false ↦ decimal_by k (n / 10) ++ (48 + n % 10) ∷ [] ]

-- "Numbers have no leading zeros"
unfoldable pub decimal : ℕ → List ℕ
unfolding decimal_by
decimal n = decimal_by (suc n) n

-- so many digits, leading zeros among them
abbrev pub fixed : ℕ → ℕ → List ℕ
fixed width n = places_of 10 48 width n

-- "price with four decimals", of ten-thousandths
unfoldable pub price_text : ℕ → List ℕ
price_text p = decimal (p / 10000) ++ bytes_of "." ++ fixed 4 p

-- "CheckSum is the sum of all bytes before `10=`, modulo 256"
abbrev pub check_sum : List ℕ → ℕ
check_sum s = sum_of s % 256
