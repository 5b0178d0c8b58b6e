use mathlib.Core.Path.{sym, ap}
use Rattle.bench.specs.Timed.{page_word}
use Rattle.bench.proofs.page_word.Goals as goal

pub returns-in-Ok : goal.returns-in-Ok
returns-in-Ok c = rw (c.from.ensures, c.from-in-Ok.ensures) (ap page_word (sym c.in-Ok.is))
