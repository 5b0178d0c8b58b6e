-- Form, then range: what the tests of form make of `well_formed`, what it means that a value is well formed, and what each answer of a check means.
--     checked-good, checked-bad, checked-out     the form and the range behind an answer
use mathlib.Core.Path.{◌≡◌, refl}
use mathlib.Core.List.{List}
use mathlib.Core.Option.{Option, none, some}
use mathlib.Core.Bool.{Bool, true, false, ◌&&◌}
use Prim.Native.Nat.{ℕ}
use native.Mathlib.Omega.{arith}
use lib.ListN.{length}
use lib.Dec.{eqb}
use borrow.Author.Tests.{eq-eqb, ne_eqb, eqb-true}
use Rattle.octet.proofs.Cases.{of-cond, cond-true, cond-false, and_both, and-make, and-no-left, and-no-right}
use Rattle.value.specs.Value.{well_formed}
use Rattle.value.specs.Readers.{checked}
use Rattle.std.specs.Prelude.{Ok, Err}
use Rattle.value.specs.declared.Flaw.TheVariants.{Form, Range}

module _ (v : List ℕ) (good : ℕ) (complete : Bool) where
  pub form-short : (good ≡ length v → ⊥) → well_formed v good complete ≡ some good
  form-short h = cond-false _ _ _ (and-no-left (eqb good (length v)) complete (ne_eqb _ _ h))

  pub form-part : complete ≡ false → well_formed v good complete ≡ some good
  form-part h = cond-false _ _ _ (and-no-right (eqb good (length v)) complete h)

  pub form-well : good ≡ length v → complete ≡ true → well_formed v good complete ≡ none
  form-well g h = cond-true _ _ _ (and-make (eqb good (length v)) complete (eq-eqb _ _ g) h)

  -- a value is well formed where its good beginning is all of it, and complete
  pub form-good : well_formed v good complete ≡ none → (good ≡ length v) × (complete ≡ true)
  form-good =
      of-cond (λ (o : Option ℕ). o ≡ none → (good ≡ length v) × (complete ≡ true)) (eqb good (length v) && complete)
      (λ e f. (let p = and_both (eqb good (length v)) complete e in (eqb-true good (length v) p.0, p.1)))
      (λ e f. absurd (let z : ◌≡◌ {A = ℕ} 0 1 = cc in omega arith))

  -- and it is bad where its good beginning ends
  pub form-at : (p : ℕ) → well_formed v good complete ≡ some p → good ≡ p
  form-at p = of-cond (λ (o : Option ℕ). o ≡ some p → good ≡ p) (eqb good (length v) && complete) (λ e f. cc) (λ e f. cc)

-- ---- what each answer of a check means
pub checked-good : (form : Option ℕ) (fits : Bool) → checked form fits ≡ Ok tt → (form ≡ none) × (fits ≡ true)
checked-good (some at) fits e = absurd (let z : ◌≡◌ {A = ℕ} 0 1 = cc in omega arith)
checked-good none true e = (refl, refl)
checked-good none false e = absurd (let z : ◌≡◌ {A = ℕ} 0 1 = cc in omega arith)

pub checked-bad : (form : Option ℕ) (fits : Bool) (at : ℕ) → checked form fits ≡ Err (Form at) → form ≡ some at
checked-bad (some place) fits at e = cc
checked-bad none true at e = absurd (let z : ◌≡◌ {A = ℕ} 0 1 = cc in omega arith)
checked-bad none false at e = absurd (let z : ◌≡◌ {A = ℕ} 0 1 = cc in omega arith)

pub checked-out : (form : Option ℕ) (fits : Bool) → checked form fits ≡ Err Range → (form ≡ none) × (fits ≡ false)
checked-out (some at) fits e = absurd (let z : ◌≡◌ {A = ℕ} 0 1 = cc in omega arith)
checked-out none true e = absurd (let z : ◌≡◌ {A = ℕ} 0 1 = cc in omega arith)
checked-out none false e = (refl, refl)
