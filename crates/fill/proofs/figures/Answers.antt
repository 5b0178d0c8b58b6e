use mathlib.Core.List.{append_assoc}
use Rattle.text.proofs.Puts.{puts-puts}
use Rattle.fill.proofs.figures.Goals as goal

pub returns : goal.returns
returns c =
    simp (c.price.ensures, c.put.ensures, c.number_word-2.ensures, c.number_word.ensures, c.from-2.ensures, c.from.ensures, c.price_of.ensures, c.shares_of.ensures, c.side_of.ensures, puts-puts, append_assoc)
