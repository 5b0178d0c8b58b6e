-- `text::Text::each` meets its contract. The invariant: the text is the first one with the bytes passed.
-- Assumes nothing.
use Rattle.std.proofs.Common.{◌∙◌, add-one, take-suc, arith}
use Rattle.text.proofs.Puts.{puts-puts}
use Rattle.text.proofs.Text.each.Goals as goal

pub loop-x-preserved : goal.loop-x-preserved
loop-x-preserved c = rw (add-one, take-suc c.args.s.now c.loop-x.x-index 0 (omega arith)) (c.put.ensures ∙ rw (c.loop-x.invariant, puts-puts))
