use Rattle.bench.proofs.Told.{unframed}
use Rattle.bench.proofs.became_number.Goals as goal

pub returns-in-Framed : goal.returns-in-Framed
returns-in-Framed c = rw c.in-Framed.is c.number.ensures

pub returns-in_default : goal.returns-in_default
returns-in_default c = unframed c.args.answer c.in_default.not-Framed
