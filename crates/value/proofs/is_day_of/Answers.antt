-- `value::is_day_of` meets its contract: each arm knows its month.
use borrow.Author.Rules.{rules}
use Rattle.value.specs.Value.{day_fits}
use Rattle.value.proofs.is_day_of.Goals as goal

pub returns-in-Some : goal.returns-in-Some
unfolding day_fits
returns-in-Some c = rw c.in-Some.is c.is_day.ensures

pub returns-in-None : goal.returns-in-None
unfolding day_fits
returns-in-None c = rw c.in-None.is (search rules)
