-- `receiver::messages::message` meets its contract: it is that of `receive`, and the count is raised that it says.
use lib.ListN.{length}
use Rattle.receiver.specs.State.{seen}
use Rattle.receiver.specs.Receiver.{Message}
use Rattle.receiver.specs.Steps.{lent_to}
use Rattle.receiver.proofs.Framing.{taken-call}
use Rattle.receiver.proofs.messages.message.Goals as goal

pub returns : goal.returns
returns c =
    let a = c.args in
    let e = c.receive-received.ensures in
    rw c.count.ensures
    (taken-call a.setup (seen a.st a.book.now) (lent_to (length a.reply.now) (length a.note.now)) a.tally.now (Message a.time.now a.bytes.now) e.0 e.1)
