use Rattle.text.proofs.Puts.{puts-puts}
use Rattle.fill.proofs.text_word.Goals as goal

pub returns : goal.returns
returns c = simp (c.all.ensures, c.text_of.ensures, c.put.ensures, puts-puts)
