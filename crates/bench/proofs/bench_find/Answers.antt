use mathlib.Core.Path.{refl, sym}
use Rattle.bench.proofs.bench_find.Goals as goal

pub returns-in-More : goal.returns-in-More
returns-in-More c = rw (sym c.find.ensures, c.in-More.is) refl

pub returns-in-Garbled : goal.returns-in-Garbled
returns-in-Garbled c = rw (sym c.find.ensures, c.in-Garbled.is) refl

pub returns-in-Framed : goal.returns-in-Framed
returns-in-Framed c = rw (sym c.find.ensures, c.in-Framed.is) refl
