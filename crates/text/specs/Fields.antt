-- Fields, `tag=value|`, laid out one after another.
use Rattle.std.specs.Prelude.{ℕ, Bool, true, false, List, [], ◌∷◌, ◌++◌}
use Rattle.octet.specs.Bytes.{bytes_of}
use Rattle.text.specs.Decimal.{decimal}

pub record Field : Type 0 where
  pub tag : ℕ
  pub value : List ℕ

infix 66 ◌is◌
abbrev pub ◌is◌ : ℕ → List ℕ → Field
tag is value = record { tag = tag; value = value }

-- "a tag .., `=`, a value .., `|`"
unfoldable pub field_bytes : Field → List ℕ
field_bytes f = decimal f.tag ++ bytes_of "=" ++ f.value ++ bytes_of "|"

-- fields, one after another
abbrev pub layout : List Field → List ℕ
layout [] = []
layout (f ∷ fs) = field_bytes f ++ layout fs

-- fields "where said", else none
abbrev pub said : Bool → List Field → List Field
said true fs = fs
said false fs = []
