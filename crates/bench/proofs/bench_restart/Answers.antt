use mathlib.Core.Path.{refl, sym}
use Rattle.bench.proofs.bench_restart.Goals as goal

pub returns-in-Ok : goal.returns-in-Ok
returns-in-Ok c = (rw (sym c.restart.ensures.0, c.in-Ok.is) refl, c.restart.ensures.1)

pub returns-in-Err : goal.returns-in-Err
returns-in-Err c = (rw (sym c.restart.ensures.0, c.in-Err.is) refl, c.restart.ensures.1)
