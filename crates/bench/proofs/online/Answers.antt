use Rattle.bench.proofs.online.Goals as goal

pub returns : goal.returns
returns c = rw c.count_on.ensures
