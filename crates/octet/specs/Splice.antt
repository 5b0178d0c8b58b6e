-- Bytes written into lent memory at a place: "Lent bytes past what is written stay".
use Rattle.std.specs.Prelude.{ℕ, ◌+◌, List, ◌++◌, Bool, cond, length, take, drop, leb}

-- whether s fits into d from place `at` on
abbrev pub fits_at : List ℕ → ℕ → List ℕ → Bool
fits_at d at s = leb (at + length s) (length d)

-- d with s written over it from place `at` on; d itself where s does not fit
unfoldable pub splice : List ℕ → ℕ → List ℕ → List ℕ
splice d at s = cond (fits_at d at s) (take at d ++ s ++ drop (at + length s) d) d
