-- Numbers written in places of one byte each: decimal digits (base 10, byte 48 is nought) and bytes (base 256, byte 0 is nought), in either order.
use Rattle.std.specs.Prelude.{ℕ, zero, suc, ◌+◌, ◌-◌, ◌*◌, ◌/◌, ◌%◌, ◌^◌, List, [], ◌∷◌, reverse, cond, length, leb}
use Rattle.octet.specs.Bytes.{part}

-- the number that places write after v, the highest place first; the byte `nought` stands for 0
abbrev pub value_of : ℕ → ℕ → ℕ → List ℕ → ℕ
value_of base nought v [] = v
value_of base nought v (b ∷ s) = value_of base nought (v * base + (b - nought)) s

-- the lowest `width` places of n, the highest first
abbrev pub places_of : ℕ → ℕ → ℕ → ℕ → List ℕ
places_of base nought zero n = []
places_of base nought (suc width) n = (nought + n / base ^ width % base) ∷ places_of base nought width n

-- which byte of a number comes first
pub data Order : Type 0 where
  HighFirst : Order
  LowFirst : Order

-- places in that order, from the highest first, and back
abbrev pub ordered : Order → List ℕ → List ℕ
ordered HighFirst s = s
ordered LowFirst s = reverse s

-- a number in so many bytes, and the number that bytes are
unfoldable pub number_bytes : Order → ℕ → ℕ → List ℕ
number_bytes order width n = ordered order (places_of 256 0 width n)

unfoldable pub number_in : Order → List ℕ → ℕ
number_in order s = value_of 256 0 0 (ordered order s)

-- "numbers high byte first"
abbrev pub high : ℕ → ℕ → List ℕ
high width n = number_bytes HighFirst width n

abbrev pub big_endian : List ℕ → ℕ
big_endian s = number_in HighFirst s

-- the eight bytes at a place as one number, low byte first; 0 where there are not eight
unfoldable pub word_at : ℕ → List ℕ → ℕ
word_at at s = cond (leb (at + 8) (length s)) (number_in LowFirst (part at 8 s)) 0
