-- `bench::lend` meets its contract: it is that of the message call, but for the tally.
use Rattle.receiver.specs.Receiver.{call}
use Rattle.bench.proofs.lend.Goals as goal

pub returns : goal.returns
unfolding call
returns c = c.message.ensures.entered
