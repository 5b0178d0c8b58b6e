use Rattle.text.proofs.Puts.{puts-puts}
use Rattle.fill.proofs.number_word.Goals as goal

pub returns : goal.returns
returns c = simp (c.decimal.ensures, c.put.ensures, puts-puts)
