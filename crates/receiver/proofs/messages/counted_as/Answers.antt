use Rattle.receiver.proofs.messages.counted_as.Goals as goal

pub returns-in-Framed : goal.returns-in-Framed
returns-in-Framed c = rw c.in-Framed.is c.count_of.ensures
