use mathlib.Core.Path.{refl}
use Rattle.bench.specs.Timed.{word_of}
use Rattle.bench.proofs.word_of.Goals as goal

pub returns : goal.returns
unfolding word_of
returns c = rw (c.from.ensures, c.became_number.ensures) refl
