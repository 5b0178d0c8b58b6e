-- Where the fields of a body stand: each piece by its place, and the walk from one piece to the next.
use Rattle.std.specs.Prelude.{ℕ, ◌+◌, ◌-◌, min, List, [], ◌∷◌, cond, length, drop, eqb, Option, Some, None, Err}
use Rattle.octet.specs.Bytes.{part, until_byte}
use Rattle.text.specs.Decimal.{digit_run}
use Rattle.field.specs.Pieces.{Pieces, pieces_of, tagged, tag_of, Scan, sound}
use Rattle.field.specs.declared.Unsound.TheVariants.{Malformed, Empty}
use Rattle.field.specs.declared.Field.{Field}
use Rattle.field.specs.declared.Step.{Step}

-- a piece: a field, by its tag and where its value stands, or none
abbrev pub Piece : Type 0
Piece = Option Field

abbrev pub field : ℕ → ℕ → ℕ → Piece
field u s n = Some (record { tag = u; start = s; len = n })

-- a piece that begins at a place
unfoldable pub piece_at : ℕ → List ℕ → Piece
piece_at at p = cond (tagged p) (field (tag_of p) (at + (digit_run p + 1)) (length p - (digit_run p + 1))) None

-- pieces one after another, the first of them at a place, a `|` after each
unfoldable pub located : ℕ → Pieces → List Piece
located at [] = []
located at (p ∷ ps) = let rest = located (at + length p + 1) ps in piece_at at p ∷ rest

-- those from a place of a body on
abbrev pub rest_at : List ℕ → ℕ → List Piece
rest_at body i = located i (pieces_of (drop i body))

-- ---- the pieces of one tag

-- where a value stands and how long it is, or that there is none
pub data Place : Type 0 where
  At : ℕ → ℕ → Place
  Missing : Place

abbrev pub or_here : ℕ → Piece → Place → Place
or_here tag None later = later
or_here tag (Some f) later = cond (eqb f.tag tag) (At f.start f.len) later

unfoldable pub place_from : ℕ → List Piece → Place
place_from tag [] = Missing
place_from tag (g ∷ gs) = let later = place_from tag gs in or_here tag g later

-- "of a repeated tag the first counts": where its value stands
unfoldable pub place_of : ℕ → List ℕ → Place
place_of tag body = place_from tag (located 0 (pieces_of body))

-- ---- the walk

-- the piece at a place, and the place after its `|`, or the end
unfoldable pub step_of : ℕ → List ℕ → Step
step_of at body = by (until_byte 1 (drop at body))
  where
    by : ℕ → Step
    by n = record { piece = piece_at at (part at n body); next = min (at + n + 1) (length body) }

-- the fault of a piece
abbrev pub piece_fault : Piece → Scan
piece_fault None = Err Malformed
piece_fault (Some f) = cond (eqb f.len 0) (Err (Empty f.tag)) sound

-- whether a piece is of that tag, as 1 or 0
abbrev pub hits : ℕ → Piece → ℕ
hits tag None = 0
hits tag (Some f) = cond (eqb f.tag tag) 1 0
