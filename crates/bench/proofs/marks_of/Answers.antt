use mathlib.Core.Path.{ap, ◌∙◌}
use Rattle.book.specs.declared.Load.{Load}
use Rattle.receiver.specs.declared.State.{State}
use Rattle.bench.specs.Timed.{online}
use Rattle.bench.proofs.marks_of.Goals as goal

pub returns : goal.returns
returns c = ap (λ (x : State). x.marks) (c.online.ensures ∙ ap (λ (l : Load). online 1 l 0) c.load_of.ensures)
