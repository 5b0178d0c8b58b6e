-- `value::days_in` meets its contract, arm by arm.
use mathlib.Core.Path.{◌≡◌}
use mathlib.Core.Logic.{◌⊎◌, ⊎_elim}
use Prim.Native.Nat.{ℕ}
use native.Mathlib.Omega.{arith}
use borrow.Author.Tests.{ne_eqb}
use Rattle.value.specs.Value.{days_in}
use Rattle.value.proofs.days_in.Goals as goal

pub returns-then-is_leap : goal.returns-then-is_leap
unfolding days_in
returns-then-is_leap c = rw (c.in-2.is, ← c.is_leap.ensures, c.if-is_leap.true)

pub returns-else-is_leap : goal.returns-else-is_leap
unfolding days_in
returns-else-is_leap c = rw (c.in-2.is, ← c.is_leap.ensures, c.if-is_leap.false)

thirty : (y m : ℕ) → (m ≡ 4) ⊎ ((m ≡ 6) ⊎ ((m ≡ 9) ⊎ (m ≡ 11))) → 30 ≡ days_in y m
unfolding days_in
thirty y m = ⊎_elim (λ e. rw e) (⊎_elim (λ e. rw e) (⊎_elim (λ e. rw e) (λ e. rw e)))

pub returns-in-4 : goal.returns-in-4
returns-in-4 c = thirty _ _ c.in-4.is

pub returns-in_default : goal.returns-in_default
unfolding days_in
returns-in_default c =
    let m = c.args.month in
    let two : m ≡ 2 → ⊥ = grind arith in
    let four : m ≡ 4 → ⊥ = grind arith in
    let six : m ≡ 6 → ⊥ = grind arith in
    let nine : m ≡ 9 → ⊥ = grind arith in
    let eleven : m ≡ 11 → ⊥ = grind arith in
    simp (ne_eqb m 2 two, ne_eqb m 4 four, ne_eqb m 6 six, ne_eqb m 9 nine, ne_eqb m 11 eleven)
