-- Reason 6: which value failed which form, and where. Over the forms of a row.
use Rattle.std.specs.Prelude.{ℕ, ◌<◌, ◌≡◌, List, length, get_or}
use Rattle.value.specs.Place.{FailsAt, NumberForm, PriceForm, TimeForm, GraphForm}
use Rattle.field.specs.Pieces.{Pieces, text_at, count_of}
use Rattle.answer.specs.declared.Setup.{Setup}
use Rattle.answer.specs.declared.Fault.{Fault}
use Rattle.table.specs.declared.Form.{Form}
use Rattle.table.specs.declared.Form.TheVariants.{Number, Price, Time, Text, Graph, Code, Security}
use Rattle.table.specs.Rows.{table_of, kind_in, no_row}
use Rattle.table.specs.Steps.{asked_by}

-- what a value of a form is. A text, a one-byte code and a type of security have no form to fail
abbrev pub Formed : Form → List ℕ → Type 0
Formed (Number range) v = NumberForm v
Formed Price v = PriceForm v
Formed Time v = TimeForm v
Formed (Text range) v = Unit {0}
Formed (Graph range) v = GraphForm v
Formed (Code codes) v = Unit {0}
Formed Security v = Unit {0}

-- a fault of form: a row of the type's table asks for the tag that it names, the tag stands once, and its value fails the row's form at the fault's place
pub record Misformed (setup : Setup) (ps : Pieces) (f : Fault) : Type 0 where
  pub row : ℕ
  pub listed : row < length (table_of setup (kind_in setup ps))
  pub names : (asked_by (get_or (table_of setup (kind_in setup ps)) row no_row)).tag ≡ f.tag
  pub once : count_of f.tag ps ≡ 1
  pub fails : FailsAt (Formed (asked_by (get_or (table_of setup (kind_in setup ps)) row no_row)).form) (text_at f.tag ps) f.at
