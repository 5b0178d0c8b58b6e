-- Reason 6: the fault says which value failed which form, and where.
--     form-places     whatever the form, its reader says where a value fails it
--     misformed     a fault of reason 6 is that of a row whose form the value of its tag fails, at the fault's place
--     at-zero, at-inside     any other fault has place 0; the place is inside the value
use mathlib.Core.Path.{◌≡◌, refl, subst}
use mathlib.Core.Logic.{◌⊎◌, inl, inr, ⊎_elim}
use mathlib.Core.List.{List, [], ◌∷◌}
use mathlib.Core.Option.{Option, none, some}
use Prim.Native.Nat.{ℕ, zero, suc, ◌≤◌, ◌<◌}
use native.Mathlib.Omega.{arith}
use lib.ListN.{length, get_or}
use lib.Dec.{eqb}
use borrow.Author.Tests.{eqb-true}
use Rattle.octet.specs.Maybe.{or_else}
use Rattle.octet.proofs.Cases.{of-cond}
use Rattle.value.specs.Place.{FailsAt, Places}
use Rattle.std.specs.Prelude.{Result, Ok, Err}
use Rattle.value.specs.declared.Flaw.{Flaw}
use Rattle.value.specs.declared.Flaw.TheVariants as flaw
use Rattle.value.proofs.Forms.{checked-bad}
use Rattle.value.proofs.Place.{number-places, price-places, time-places, graph-places}
use Rattle.field.specs.Pieces.{Pieces, text_at, count_of, Scan, scan_of}
use Rattle.field.specs.Look.{look_of}
use Rattle.field.specs.declared.Unsound.TheVariants as unsound
use Rattle.answer.specs.Numbers.{inside}
use Rattle.answer.specs.declared.Setup.{Setup}
use Rattle.answer.specs.declared.Phase.{Phase}
use Rattle.answer.specs.declared.Fault.{Fault}
use Rattle.answer.specs.declared.Kind.{Kind}
use Rattle.answer.specs.declared.Kind.TheVariants as kind
use Rattle.table.specs.declared.Form.{Form}
use Rattle.table.specs.declared.Form.TheVariants.{Number, Price, Time, Text, Graph, Code, Security}
use Rattle.table.specs.declared.Row.{Row}
use Rattle.table.specs.declared.Given.{Given}
use Rattle.table.specs.Rows.{table_of, kind_in, no_row}
use Rattle.table.specs.Steps.{given_of, bad_form, fits, value_check, check_fault, tag_fault, applies, asked_by, row_fault, walk, scan_fault, kind_fault, first_fault, fault_in}
use Rattle.table.specs.Place.{Formed, Misformed}

-- ---- one form

-- what has no form never fails it
never-fails : Places (λ v. Unit {0}) (λ v. none)
never-fails = record {
  formed = λ v. (λ e. tt, λ g. refl);
  fails = λ v p. (λ e. absurd (let z : ◌≡◌ {A = ℕ} 0 1 = cc in omega arith), λ x. absurd (x.bad tt));
}

pub form-places : (form : Form) → Places (Formed form) (bad_form form)
unfolding bad_form
form-places (Number range) = number-places
form-places Price = price-places
form-places Time = time-places
form-places (Text range) = never-fails
form-places (Graph range) = graph-places
form-places (Code codes) = never-fails
form-places Security = never-fails

-- ---- a fault, if there is one

-- one of form is as P says, and another has no place
abbrev Sited : (Fault → Type 0) → Fault → Type 0
Sited P f = ((f.reason ≡ 6) × P f) ⊎ ((f.reason ≡ 6 → ⊥) × (f.at ≡ 0))

abbrev SitedIf : (Fault → Type 0) → Option Fault → Type 0
SitedIf P none = Unit {0}
SitedIf P (some f) = Sited P f

or-sited : (P : Fault → Type 0) (p q : Option Fault) → SitedIf P p → SitedIf P q → SitedIf P (or_else p q)
or-sited P none q h k = k
or-sited P (some f) q h k = h

sited-as : (P Q : Fault → Type 0) → ((f : Fault) → P f → Q f) → (o : Option Fault) → SitedIf P o → SitedIf Q o
sited-as P Q g none h = tt
sited-as P Q g (some f) h = ⊎_elim (λ x. inl (x.0, g f x.1)) (λ x. inr x) h

scan-sited : (P : Fault → Type 0) (c : Scan) → SitedIf P (scan_fault c)
scan-sited P (Ok a) = tt
scan-sited P (Err unsound.Malformed) = inr (λ e. omega arith, refl)
scan-sited P (Err (unsound.Empty tag)) = inr (λ e. omega arith, refl)

kind-sited : (P : Fault → Type 0) (phase : Phase) (k : Kind) → SitedIf P (kind_fault phase k)
kind-sited P phase kind.Logon = of-cond (SitedIf P) (inside phase) (λ t. inr (λ e. omega arith, refl)) (λ t. tt)
kind-sited P phase kind.Heartbeat = tt
kind-sited P phase kind.Test = tt
kind-sited P phase kind.Resend = tt
kind-sited P phase kind.Reset = tt
kind-sited P phase kind.Logout = tt
kind-sited P phase kind.Report = tt
kind-sited P phase kind.Correction = tt
kind-sited P phase kind.Other = tt
kind-sited P phase kind.Unlisted = inr (λ e. omega arith, refl)

-- ---- one row

-- the tag of the row stands once, and its value fails the row's form there
record Fails (ps : Pieces) (row : Row) (f : Fault) : Type 0 where
  names : (asked_by row).tag ≡ f.tag
  once : count_of f.tag ps ≡ 1
  fails : FailsAt (Formed (asked_by row).form) (text_at f.tag ps) f.at

module _ (given : Given) (ps : Pieces) (row : Row) where
  check-sited : count_of (asked_by row).tag ps ≡ 1 → (c : Result Unit Flaw) → value_check given (look_of ps) (asked_by row).form (text_at (asked_by row).tag ps) ≡ c
      → SitedIf (Fails ps row) (check_fault (asked_by row).tag c)
  check-sited n (Ok a) e = tt
  check-sited n (Err (flaw.Form at)) e =
      let v = text_at (asked_by row).tag ps in
      let form = (asked_by row).form in
      inl (refl, record { names = refl; once = n; fails = ((form-places form).fails v at).0 (checked-bad (bad_form form v) (fits given (look_of ps) form v) at e) })
  check-sited n (Err flaw.Range) e = inr (λ h. omega arith, refl)

  tag-sited : SitedIf (Fails ps row) (tag_fault given (look_of ps) (asked_by row).tag (asked_by row).needed (asked_by row).form)
  unfolding tag_fault
  tag-sited =
      let n = count_of (asked_by row).tag ps in
      of-cond (SitedIf (Fails ps row)) (eqb n 0)
      (λ _. of-cond (SitedIf (Fails ps row)) (asked_by row).needed (λ _. inr (λ h. omega arith, refl)) (λ _. tt))
      (λ _. of-cond (SitedIf (Fails ps row)) (eqb n 1) (λ t. check-sited (eqb-true n 1 t) _ refl) (λ _. inr (λ h. omega arith, refl)))

  row-sited : SitedIf (Fails ps row) (row_fault given (look_of ps) row)
  row-sited = of-cond (SitedIf (Fails ps row)) (applies given (asked_by row).place) (λ _. tag-sited) (λ _. tt)

-- ---- the rows, and all of steps 5 to 7

-- one of the rows is that
abbrev Among : Pieces → List Row → Fault → Type 0
Among ps rows f = (i : ℕ) × (i < length rows) × Fails ps (get_or rows i no_row) f

walk-sited : (given : Given) (ps : Pieces) (rows : List Row) → SitedIf (Among ps rows) (walk given (look_of ps) rows)
unfolding walk
walk-sited given ps [] = tt
walk-sited given ps (row ∷ rows) =
    let here = row_fault given (look_of ps) row in
    let rest = walk given (look_of ps) rows in
    or-sited (Among ps (row ∷ rows)) here rest
    (sited-as (Fails ps row) (Among ps (row ∷ rows)) (λ f x. (zero, omega arith, x)) here (row-sited given ps row))
    (sited-as (Among ps rows) (Among ps (row ∷ rows)) (λ f x. (let h = x.1 in (suc x.0, omega arith, x.2))) rest (walk-sited given ps rows))

module _ (setup : Setup) (phase : Phase) (o : ℕ) (ps : Pieces) where
  fault-sited : SitedIf (Among ps (table_of setup (kind_in setup ps))) (fault_in setup phase o ps)
  unfolding fault_in first_fault
  fault-sited =
      let k : Kind = kind_in setup ps in
      let P = Among ps (table_of setup k) in
      or-sited P (scan_fault (scan_of ps)) _ (scan-sited P (scan_of ps))
      (or-sited P (kind_fault phase k) _ (kind-sited P phase k) (walk-sited (given_of phase o) ps (table_of setup k)))

  module _ (f : Fault) (e : fault_in setup phase o ps ≡ some f) where
    sited : Sited (Among ps (table_of setup (kind_in setup ps))) f
    sited = subst (SitedIf (Among ps (table_of setup (kind_in setup ps)))) e fault-sited

    pub misformed : f.reason ≡ 6 → Misformed setup ps f
    misformed h =
        ⊎_elim
        (λ x. (let y = x.1 in let z = y.2 in record { row = y.0; listed = y.1; names = z.names; once = z.once; fails = z.fails }))
        (λ x. absurd (x.0 h))
        sited

    pub at_zero : (f.reason ≡ 6 → ⊥) → f.at ≡ 0
    at_zero h = ⊎_elim (λ x. absurd (h x.0)) (λ x. x.1) sited

    pub at-inside : f.at ≤ length (text_at f.tag ps)
    at-inside = ⊎_elim (λ x. x.1.2.fails.inside) (λ x. (let z = x.1 in omega arith)) sited
