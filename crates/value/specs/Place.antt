-- Where a value fails its form, over any form; and the five forms by the papers' sentences, apart from how they are read.
use Rattle.std.specs.Prelude.{ℕ, ◌≤◌, ◌<◌, ◌≡◌, ◌⊎◌, ◌↔◌, List, [], ◌∷◌, ◌++◌, Bool, true, false, ◌&&◌, length, take}
use Rattle.std.proofs.Math.Option.{Option, none, some}
use Rattle.octet.specs.Bytes.{bytes_of, all_in}
use Rattle.value.specs.Value.{like_byte}

-- ---- over any form

-- a value of the form begins so
abbrev pub Begins : (List ℕ → Type 0) → List ℕ → Type 0
Begins Good b = (rest : List ℕ) × Good (b ++ rest)

-- "the place, from 0, of the first byte that breaks the form, or the value's length where it is too short": the value is not of the form, and p is the length of its longest
-- beginning with which a value of the form begins
pub record FailsAt (Good : List ℕ → Type 0) (v : List ℕ) (p : ℕ) : Type 0 where
  pub bad : ¬ Good v
  pub inside : p ≤ length v
  pub begins : Begins Good (take p v)
  pub longest : (n : ℕ) → p < n → n ≤ length v → ¬ Begins Good (take n v)

-- a reader says that place: none exactly of a value of the form, and p exactly of one that fails at p
pub record Places (Good : List ℕ → Type 0) (bad : List ℕ → Option ℕ) : Type 0 where
  pub formed : (v : List ℕ) → (bad v ≡ none) ↔ Good v
  pub fails : (v : List ℕ) (p : ℕ) → (bad v ≡ some p) ↔ FailsAt Good v p

-- ---- the forms

-- digits only, so many
pub record Numeral (low high : ℕ) (v : List ℕ) : Type 0 where
  pub only : all_in 48 57 v ≡ true
  pub least : low ≤ length v
  pub most : length v ≤ high

-- "Numbers have digits only, 1 to 9"
abbrev pub NumberForm : List ℕ → Type 0
NumberForm v = Numeral 1 9 v

-- "Format: YYYYMM", "Format: DD": exactly n digits are Numeral n n

-- "A price is 1 to 7 digits, or those, a point and 1 to 4 digits"
pub record Pointed (v : List ℕ) : Type 0 where
  pub wholes : List ℕ
  pub decimals : List ℕ
  pub parts : v ≡ wholes ++ 46 ∷ decimals
  pub before : Numeral 1 7 wholes
  pub after : Numeral 1 4 decimals

abbrev pub PriceForm : List ℕ → Type 0
PriceForm v = Numeral 1 7 v ⊎ Pointed v

-- all of a value is like all of a pattern
abbrev pub like_all : List ℕ → List ℕ → Bool
like_all [] [] = true
like_all [] (b ∷ v) = false
like_all (t ∷ ts) [] = false
like_all (t ∷ ts) (b ∷ v) = like_byte t b && like_all ts v

-- "UTC time is YYYYMMDD-HH:MM:SS or that and .mmm"
abbrev pub TimeForm : List ℕ → Type 0
TimeForm v = (like_all (bytes_of "00000000-00:00:00") v ≡ true) ⊎ (like_all (bytes_of "00000000-00:00:00.000") v ≡ true)

-- "all three of bytes 33 to 126"
abbrev pub GraphForm : List ℕ → Type 0
GraphForm v = all_in 33 126 v ≡ true
