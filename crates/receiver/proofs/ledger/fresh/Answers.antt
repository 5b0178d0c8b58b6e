-- `receiver::ledger::fresh` meets its contract.
use Rattle.receiver.specs.State.{stored}
use Rattle.receiver.proofs.ledger.fresh.Goals as goal

pub returns : goal.returns
unfolding stored
returns c = rw (c.fresh.ensures, c.none.ensures)
