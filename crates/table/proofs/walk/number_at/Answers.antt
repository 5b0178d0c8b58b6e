use mathlib.Core.Path.{◌≡◌, refl, sym, ap, ◌∙◌}
use mathlib.Core.List.{List, [], ◌∷◌}
use Prim.Native.Nat.{ℕ}
use native.Mathlib.Omega.{arith}
use lib.ListN.{length}
use borrow.Author.Tests.{eqb-true}
use Rattle.value.specs.Value.{number_or}
use Rattle.table.proofs.walk.number_at.Goals as goal

-- what has no bytes has no number
empty : (v : List ℕ) → length v ≡ 0 → 0 ≡ number_or v
unfolding number_or
empty [] e = refl
empty (b ∷ v) e = absurd (omega arith)

pub returns-then-is_empty : goal.returns-then-is_empty
returns-then-is_empty c = record { value = empty _ (eqb-true _ _ (sym c.is_empty.ensures ∙ c.if-is_empty.true)) ∙ ap number_or c.value-v.ensures; upper_bound = omega arith }

pub returns : goal.returns
returns c = record { value = c.number_of.ensures.value ∙ ap number_or c.value-v.ensures; upper_bound = c.number_of.ensures.upper_bound }
