-- `value::is_leap` meets its contract, by its test.
use borrow.Author.Tests.{eq-eqb, ne_eqb}
use Rattle.value.specs.Value.{leap}
use Rattle.value.proofs.is_leap.Goals as goal

pub returns-then-year-eq0 : goal.returns-then-year-eq0
unfolding leap
returns-then-year-eq0 c = simp (eq-eqb _ _ c.if-year-eq0.true)

pub returns-else-year-eq0 : goal.returns-else-year-eq0
unfolding leap
returns-else-year-eq0 c = simp (ne_eqb _ _ c.if-year-eq0.false)
