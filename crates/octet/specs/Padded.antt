-- "texts a length byte and zero padding": a text in a field of fixed width.
use Rattle.std.specs.Prelude.{ℕ, ◌+◌, ◌-◌, ◌≡◌, List, ◌∷◌, ◌++◌, Bool, cond, ◌&&◌, length, get_or, take, drop, replicate, leb}
use Rattle.octet.specs.Bytes.{between, all_in}
use Rattle.octet.specs.Splice.{splice, fits_at}

-- whether a text fits into a field of that width: one byte says its length
abbrev pub fits_width : ℕ → List ℕ → Bool
fits_width width t = leb (length t + 1) width && leb (length t) 255

unfoldable pub padded : ℕ → List ℕ → List ℕ
padded width t = length t ∷ t ++ replicate (width - 1 - length t) 0

-- the field written over d from place `at` on: what is answered, and what stands there after
abbrev pub PutsPadded : List ℕ → ℕ → ℕ → List ℕ → Bool → List ℕ → Type 0
PutsPadded d at width t r d' =
    (r ≡ fits_width width t && fits_at d at (padded width t)) × (d' ≡ cond (fits_width width t) (splice d at (padded width t)) d)

-- the text of such a field
unfoldable pub text_of : List ℕ → List ℕ
text_of f = take (get_or f 0 0) (drop 1 f)

-- a field that is so formed: a text of `least` bytes or more, each of low to high, and zeros after it
unfoldable pub padded_ok : ℕ → ℕ → ℕ → List ℕ → Bool
padded_ok least low high f =
    between least (length f - 1) (get_or f 0 0) && all_in low high (text_of f) && all_in 0 0 (drop (get_or f 0 0 + 1) f)
