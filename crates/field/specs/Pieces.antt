-- The fields of a body: the pieces between `|`s ("Finding a message", last paragraph; steps 1, 2 and 5).
use Rattle.std.specs.Prelude.{ℕ, ◌+◌, min, List, [], ◌∷◌, Bool, false, cond, ◌&&◌, not, length, get_or, take, drop, ltb, eqb, Result, Ok, Err}
use Rattle.std.specs.Result.{result_and}
use Rattle.std.proofs.Math.Option.{Option, none, some}
use Rattle.octet.specs.Bytes.{between, same}
use Rattle.octet.specs.Maybe.{first, unless}
use Rattle.text.specs.Decimal.{digit_run, digits}
use Rattle.field.specs.declared.Unsound.{Unsound}
use Rattle.field.specs.declared.Unsound.TheVariants.{Malformed, Empty}

abbrev pub Pieces : Type 0
Pieces = List (List ℕ)

abbrev pub on_first : ℕ → Pieces → Pieces
on_first b [] = (b ∷ []) ∷ []
on_first b (p ∷ ps) = (b ∷ p) ∷ ps

-- a body ends with `|`: what stands before each
unfoldable pub pieces_of : List ℕ → Pieces
pieces_of [] = []
pieces_of (b ∷ s) = let rest = pieces_of s in cond (eqb b 1) ([] ∷ rest) (on_first b rest)

-- ---- one piece

-- "A field is a tag of 1 to 5 digits not starting with 0, `=`, .."
abbrev pub tagged : List ℕ → Bool
tagged p = between 1 5 (digit_run p) && not (eqb (get_or p 0 0) 48) && eqb (get_or p (digit_run p) 0) 61

abbrev pub tag_of : List ℕ → ℕ
tag_of p = digits (take (digit_run p) p)

abbrev pub value_after : List ℕ → List ℕ
value_after p = drop (digit_run p + 1) p

-- ".. a value of at least one byte"
abbrev pub valued : List ℕ → Bool
valued p = ltb (digit_run p + 1) (length p)

-- the piece begins with that tag and `=`
unfoldable pub carries : ℕ → List ℕ → Bool
carries tag p = tagged p && eqb (tag_of p) tag

-- ---- the pieces of one tag

-- the values of the pieces that begin with a tag and `=`, in order
unfoldable pub values_of : ℕ → Pieces → Pieces
values_of tag [] = []
values_of tag (p ∷ ps) = let rest = values_of tag ps in cond (carries tag p) (value_after p ∷ rest) rest

-- "of a repeated tag the first counts"
abbrev pub first_of : ℕ → Pieces → Option (List ℕ)
first_of tag ps = first (values_of tag ps)

abbrev pub is_that : List ℕ → Option (List ℕ) → Bool
is_that v none = false
is_that v (some w) = same v w

-- the first field of that tag has that value
abbrev pub has : ℕ → List ℕ → Pieces → Bool
has tag v ps = is_that v (first_of tag ps)

-- the value of a tag; nothing where it is not there
abbrev pub text_at : ℕ → Pieces → List ℕ
text_at tag ps = unless [] (first_of tag ps)

-- how often a tag stands, 2 for more than once
unfoldable pub count_of : ℕ → Pieces → ℕ
count_of tag ps = min 2 (length (values_of tag ps))

-- ---- step 5

-- no fault, or the first one
abbrev pub Scan : Type 0
Scan = Result (Unit {0}) Unsound

abbrev pub sound : Scan
sound = Ok tt

-- "First malformed field: Reject 0; without a value: Reject 4 with its tag"
unfoldable pub piece_scan : List ℕ → Scan
piece_scan p = cond (tagged p) (cond (valued p) sound (Err (Empty (tag_of p)))) (Err Malformed)

-- the first of two
abbrev pub and_then : Scan → Scan → Scan
and_then sooner later = result_and sooner later

unfoldable pub scan_of : Pieces → Scan
scan_of [] = sound
scan_of (p ∷ ps) = let rest = scan_of ps in and_then (piece_scan p) rest
