-- Bytes as lists of numbers: texts as the paper writes them, sameness, agreement, runs and parts.
use Rattle.std.specs.Prelude.{ℕ, suc, ◌+◌, List, [], ◌∷◌, ◌++◌, Bool, true, false, cond, ◌&&◌, take, drop, leb, eqb}
use Prim.Native.Char.{code}
use Prim.Native.String as Str
use Prim.Native.String.{String}

-- a text as the paper writes it: "`|` below is byte 1"
abbrev pub bytes_of : String → List ℕ
bytes_of Str.[] = []
bytes_of (Str.◌∷◌ c s) = cond (eqb (code c) 124) 1 (code c) ∷ bytes_of s

abbrev pub between : ℕ → ℕ → ℕ → Bool
between low high n = leb low n && leb n high

-- the same bytes, and no more
abbrev pub same : List ℕ → List ℕ → Bool
same [] [] = true
same [] (y ∷ ys) = false
same (x ∷ xs) [] = false
same (x ∷ xs) (y ∷ ys) = eqb x y && same xs ys

abbrev pub is : String → List ℕ → Bool
is text s = same (bytes_of text) s

-- "agree with the ten opening bytes as far as both go"
abbrev pub agree : List ℕ → List ℕ → Bool
agree [] s = true
agree (x ∷ o) [] = true
agree (x ∷ o) (y ∷ s) = eqb x y && agree o s

-- each byte is one of low to high
abbrev pub all_in : ℕ → ℕ → List ℕ → Bool
all_in low high [] = true
all_in low high (b ∷ s) = between low high b && all_in low high s

-- how many bytes at the front are of low to high
abbrev pub run_in : ℕ → ℕ → List ℕ → ℕ
run_in low high [] = 0
run_in low high (b ∷ s) = let more = suc (run_in low high s) in cond (between low high b) more 0

-- how many bytes stand before the first b
abbrev pub until_byte : ℕ → List ℕ → ℕ
until_byte b [] = 0
until_byte b (x ∷ s) = let more = suc (until_byte b s) in cond (eqb x b) 0 more

-- n bytes from place `at` on, or as many as there are
abbrev pub part : ℕ → ℕ → List ℕ → List ℕ
part at n s = take n (drop at s)

-- lists, one after another
abbrev pub joined : List (List ℕ) → List ℕ
joined [] = []
joined (f ∷ fs) = f ++ joined fs

abbrev pub sum_of : List ℕ → ℕ
sum_of [] = 0
sum_of (b ∷ s) = b + sum_of s
