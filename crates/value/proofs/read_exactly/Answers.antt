-- `value::read_exactly` meets its contract, by the digits at the front.
use Rattle.value.proofs.Numbers.{exactly-bad, exactly-good}
use Rattle.value.proofs.read_exactly.Goals as goal

pub returns-then-taken-v : goal.returns-then-taken-v
returns-then-taken-v c = exactly-bad _ _ _ c.run_in-run.ensures _ c.min-taken.ensures c.then-taken-v.either

pub returns : goal.returns
returns c = exactly-good _ _ _ c.run_in-run.ensures _ c.min-taken.ensures c.if-taken-v.false c.if-taken-n.false
