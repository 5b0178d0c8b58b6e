-- Bodies worked by hand, by computation: which field is a tag's first, and the first fault of the pieces.
use Rattle.std.specs.Prelude.{Err}
use mathlib.Core.Path.{◌≡◌, refl}
use mathlib.Core.List.{[], ◌∷◌, map}
use mathlib.Core.Bool.{Bool, true, false}
use Prim.Native.Nat.{ℕ}
use Prim.Native.String.{String}
use Rattle.octet.specs.Bytes.{bytes_of}
use Rattle.field.specs.Pieces.{pieces_of, carries, values_of, has, piece_scan, Scan, sound, scan_of}
use Rattle.field.specs.declared.Unsound.TheVariants.{Malformed, Empty}

abbrev scanned : String → Scan
scanned body = scan_of (pieces_of (bytes_of body))

abbrev malformed : Scan
malformed = Err Malformed

-- "First malformed field: Reject 0; without a value: Reject 4 with its tag": one search, in the order of the body
scans : map scanned ("35=0|112=x|" ∷ "35=0||" ∷ "35=0|49=|x|" ∷ "35=0|x|49=|" ∷ "035=0|" ∷ "=0|" ∷ "123456=0|" ∷ "12345=0|" ∷ "3a=0|" ∷ "35=0" ∷ "" ∷ [])
    ≡ sound ∷ malformed ∷ Err (Empty 49) ∷ malformed ∷ malformed ∷ malformed ∷ malformed ∷ sound ∷ malformed ∷ sound ∷ sound ∷ []
unfolding pieces_of piece_scan scan_of
scans = refl

abbrev yes : ℕ → String → Bool
yes tag body = has tag (bytes_of "Y") (pieces_of (bytes_of body))

-- "of a repeated tag the first counts", whatever its value and wherever other pieces are malformed
flags : yes 43 "35=0|43=Y|" ∷ yes 43 "43=N|43=Y|" ∷ yes 123 "123=|123=Y|" ∷ yes 43 "x||43=Y" ∷ yes 43 "043=Y|58=43=Y|" ∷ []
    ≡ true ∷ false ∷ false ∷ true ∷ false ∷ []
unfolding pieces_of carries values_of
flags = refl
