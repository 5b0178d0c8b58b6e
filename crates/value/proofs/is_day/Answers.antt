-- `value::is_day` meets its contract, by its tests.
use mathlib.Core.Path.{◌≡◌}
use mathlib.Core.Logic.{⊎_elim}
use mathlib.Core.Bool.{false}
use borrow.Author.Tests.{le-leb, lt-leb}
use Rattle.octet.specs.Bytes.{between}
use Rattle.octet.proofs.Lists.{is_below, is-above, is-between}
use Rattle.value.specs.Value.{is_day}
use Rattle.value.proofs.is_day.Goals as goal

pub returns-then-month-lt1 : goal.returns-then-month-lt1
unfolding is_day
returns-then-month-lt1 c =
    let m = c.args.month in
    let e : between 1 12 m ≡ false = ⊎_elim (λ h. is_below 1 12 m h) (λ h. is-above 1 12 m h.1) c.then-month-lt1.either in
    simp e

pub returns-then-day-ge1 : goal.returns-then-day-ge1
unfolding is_day
returns-then-day-ge1 c = simp (is-between 1 12 _ c.if-month-lt1.false c.if-month-gt12.false, le-leb _ _ c.if-day-ge1.true, c.days_in.ensures)

pub returns-else-day-ge1 : goal.returns-else-day-ge1
unfolding is_day
returns-else-day-ge1 c = simp (is-between 1 12 _ c.if-month-lt1.false c.if-month-gt12.false, lt-leb _ _ c.if-day-ge1.false)
