-- `receiver::deeds::with_slot` meets its contract.
use Rattle.receiver.proofs.deeds.with_slot.Goals as goal

pub returns : goal.returns
returns c = rw c.one_more.ensures
