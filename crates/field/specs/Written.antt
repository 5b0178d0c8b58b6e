-- Fields that are written, as the reader of fields will find them.
use Rattle.std.specs.Prelude.{ℕ, ◌≤◌, ◌≡◌, List, [], ◌∷◌, ◌++◌, cond, length, eqb}
use Rattle.octet.specs.Bytes.{bytes_of, until_byte}
use Rattle.text.specs.Decimal.{decimal}
use Rattle.text.specs.Fields.{Field}
use Rattle.field.specs.Pieces.{Pieces}

-- each field is such a one
pub data Each (P : Field → Type 0) : List Field → Type 0 where
  none : Each P []
  also : {f : Field} {fs : List Field} → P f → Each P fs → Each P (f ∷ fs)

-- its value has no `|`
abbrev pub Unmarked : Field → Type 0
Unmarked f = until_byte 1 f.value ≡ length f.value

-- its tag has 1 to 5 digits besides
pub record Plain (f : Field) : Type 0 where
  pub low : 1 ≤ f.tag
  pub high : f.tag ≤ 99999
  pub unmarked : Unmarked f

-- "a value of at least one byte" besides
pub record Whole (f : Field) : Type 0 where
  pub plain : Plain f
  pub some : 1 ≤ length f.value

-- what stands before its `|`
abbrev pub piece_of : Field → List ℕ
piece_of f = decimal f.tag ++ (bytes_of "=" ++ f.value)

-- the values of the fields of a tag, in order
abbrev pub values_with : ℕ → List Field → Pieces
values_with tag [] = []
values_with tag (f ∷ fs) = let rest = values_with tag fs in cond (eqb f.tag tag) (f.value ∷ rest) rest
