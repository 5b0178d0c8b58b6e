use mathlib.Core.List.{append_assoc}
use Rattle.text.proofs.Puts.{puts-puts}
use Rattle.fill.specs.Slot.{fill_line}
use Rattle.fill.proofs.fill_text.Goals as goal

pub returns : goal.returns
unfolding fill_line
returns c = simp (c.put-2.ensures, c.all.ensures, c.put.ensures, c.figures.ensures, c.names.ensures, c.time_of.ensures, puts-puts, append_assoc)
