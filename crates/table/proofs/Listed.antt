-- Steps 5 to 7 ask for listed tags alone, so that a look at these tells the same: first-fault-listed.
use mathlib.Core.Path.{◌≡◌, refl, ap}
use mathlib.Core.Bool.{Bool, true, ◌&&◌, ◌||◌}
use mathlib.Core.List.{List, [], ◌∷◌}
use mathlib.Core.Option.{Option}
use Prim.Native.Nat.{ℕ}
use lib.ListN.{length}
use lib.Dec.{eqb, leb}
use Rattle.octet.specs.Maybe.{or_else}
use Rattle.octet.proofs.Cases.{and_both}
use Rattle.field.specs.Index.{listed, position, column_of, is_listed}
use Rattle.field.specs.Pieces.{Scan}
use Rattle.field.specs.Look.{Look, at_listed}
use Rattle.field.proofs.Looks.{text-listed, count-listed}
use Rattle.value.specs.Value.{number_or}
use Rattle.answer.specs.declared.Setup.{Setup}
use Rattle.answer.specs.declared.Fault.{Fault}
use Rattle.answer.specs.declared.Kind.{Kind}
use Rattle.answer.specs.declared.Kind.TheVariants as kind
use Rattle.table.specs.declared.Range.{Range}
use Rattle.table.specs.declared.Range.TheVariants.{Of, Written, NoneOrFrom, Any}
use Rattle.table.specs.declared.Form.{Form}
use Rattle.table.specs.declared.Form.TheVariants.{Number, Price, Time, Text, Graph, Code, Security}
use Rattle.table.specs.declared.Row.{Row}
use Rattle.table.specs.declared.Row.TheVariants.{Needs, May}
use Rattle.table.specs.declared.Given.{Given}
use Rattle.table.specs.Rows.{table_of}
use Rattle.table.specs.Steps.{in_range, fits, tag_fault, row_fault, walk, scan_fault, kind_fault, first_fault}

-- the tags that a row asks for: its own, and the one that its range leans on
abbrev range_listed : Range → Bool
range_listed (Of low high) = true
range_listed Written = true
range_listed (NoneOrFrom tag) = is_listed tag
range_listed Any = true

abbrev form_listed : Form → Bool
form_listed (Number range) = range_listed range
form_listed Price = true
form_listed Time = true
form_listed (Text range) = range_listed range
form_listed (Graph range) = range_listed range
form_listed (Code codes) = true
form_listed Security = true

abbrev row_listed : Row → Bool
row_listed (Needs tag form place) = is_listed tag && form_listed form
row_listed (May tag form place) = is_listed tag && form_listed form

abbrev rows_listed : List Row → Bool
rows_listed [] = true
rows_listed (row ∷ rows) = row_listed row && rows_listed rows

module _ (given : Given) (look : Look) where
  range_listed_lem : (range : Range) (n : ℕ) → range_listed range ≡ true → in_range given (at_listed look) range n ≡ in_range given look range n
  unfolding in_range
  range_listed_lem (Of low high) n l = refl
  range_listed_lem Written n l = refl
  range_listed_lem (NoneOrFrom tag) n l = ap (λ (v : List ℕ). eqb n 0 || leb (number_or v) n) (text-listed look tag l)
  range_listed_lem Any n l = refl

  fits-listed : (form : Form) (v : List ℕ) → form_listed form ≡ true → fits given (at_listed look) form v ≡ fits given look form v
  unfolding fits
  fits-listed (Number range) v l = range_listed_lem range (number_or v) l
  fits-listed Price v l = refl
  fits-listed Time v l = refl
  fits-listed (Text range) v l = range_listed_lem range (length v) l
  fits-listed (Graph range) v l = range_listed_lem range (length v) l
  fits-listed (Code codes) v l = refl
  fits-listed Security v l = refl

  tag-listed : (tag : ℕ) (needed : Bool) (form : Form) → is_listed tag && form_listed form ≡ true
      → tag_fault given (at_listed look) tag needed form ≡ tag_fault given look tag needed form
  unfolding tag_fault
  tag-listed tag needed form l =
      let p = and_both (is_listed tag) (form_listed form) l in
      rw (count-listed look tag p.0, text-listed look tag p.0, fits-listed form (look.text tag) p.1)

  row_listed_lem : (row : Row) → row_listed row ≡ true → row_fault given (at_listed look) row ≡ row_fault given look row
  row_listed_lem (Needs tag form place) l = rw (tag-listed tag true form l)
  row_listed_lem (May tag form place) l = rw (tag-listed tag _ form l)

  walk-listed : (rows : List Row) → rows_listed rows ≡ true → walk given (at_listed look) rows ≡ walk given look rows
  unfolding walk
  walk-listed [] l = refl
  walk-listed (row ∷ rows) l =
      let p = and_both (row_listed row) (rows_listed rows) l in
      rw (row_listed_lem row p.0, walk-listed rows p.1)

-- the tables' tags are listed, one and all
tables-listed : (setup : Setup) (k : Kind) → rows_listed (table_of setup k) ≡ true
unfolding column_of position listed
tables-listed setup kind.Logon = refl
tables-listed setup kind.Heartbeat = refl
tables-listed setup kind.Test = refl
tables-listed setup kind.Resend = refl
tables-listed setup kind.Reset = refl
tables-listed setup kind.Logout = refl
tables-listed setup kind.Report = refl
tables-listed setup kind.Correction = refl
tables-listed setup kind.Other = refl
tables-listed setup kind.Unlisted = refl

pub first-fault-listed : (setup : Setup) (given : Given) (scan : Scan) (k : Kind) (look : Look)
    → first_fault setup given scan k (at_listed look) ≡ first_fault setup given scan k look
unfolding first_fault
first-fault-listed setup given scan k look =
    ap (λ (o : Option Fault). or_else (scan_fault scan) (or_else (kind_fault given.phase k) o)) (walk-listed given look (table_of setup k) (tables-listed setup k))
