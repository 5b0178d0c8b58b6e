-- Days: how large their numbers are.
use mathlib.Core.Path.{◌≡◌}
use mathlib.Core.Bool.{true, false, ◌||◌}
use mathlib.Core.Option.{Option, none, some}
use Prim.Native.Nat.{ℕ, ◌/◌, ◌%◌, ◌≤◌, ◌<◌}
use native.Mathlib.Omega.{arith}
use lib.Dec.{eqb}
use Rattle.octet.specs.Bytes.{between}
use Rattle.octet.proofs.Cases.{not-true-false, of-cond, and_both}
use Rattle.octet.proofs.Lists.{is-above, between-high}
use Rattle.value.specs.Value.{leap, days_in, is_day, day_fits}

pub days-most : (y m : ℕ) → days_in y m ≤ 31
unfolding days_in
days-most y m =
    of-cond (λ (n : ℕ). n ≤ 31) (eqb m 2)
    (λ e. of-cond (λ (n : ℕ). n ≤ 31) (leap y) (λ f. omega arith) (λ f. omega arith))
    (λ e. of-cond (λ (n : ℕ). n ≤ 31) (eqb m 4 || eqb m 6 || eqb m 9 || eqb m 11) (λ f. omega arith) (λ f. omega arith))

pub day-below : (y m d : ℕ) → is_day y m d ≡ true → (m ≤ 12) × (d ≤ 31)
unfolding is_day
day-below y m d e =
    let p = and_both (between 1 12 m) (between 1 (days_in y m) d) e in
    (between-high 1 12 m p.0, omega (arith, between-high 1 (days_in y m) d p.1, days-most y m))

-- no month has a day after its 31st
pub no-day : (month : Option ℕ) (d : ℕ) → 31 < d → day_fits month d ≡ false
unfolding day_fits
no-day none d h = is-above 1 31 d h
no-day (some month) d h = not-true-false (is_day (month / 100) (month % 100) d) (λ e. omega (arith, (day-below (month / 100) (month % 100) d e).1))
