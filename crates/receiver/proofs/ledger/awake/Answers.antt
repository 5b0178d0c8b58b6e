-- `receiver::ledger::awake` meets its contract.
use Rattle.receiver.proofs.ledger.awake.Goals as goal

pub returns : goal.returns
returns c = rw (c.again.ensures, c.load_in.ensures)
