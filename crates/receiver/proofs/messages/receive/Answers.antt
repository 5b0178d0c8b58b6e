use Rattle.receiver.proofs.messages.receive.Goals as goal

pub returns : goal.returns
returns c = (c.take-told.ensures, c.counted_as.ensures)
