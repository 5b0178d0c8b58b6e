use mathlib.Core.List.{append_assoc}
use Rattle.text.proofs.Puts.{puts-puts}
use Rattle.fill.proofs.names.Goals as goal

pub returns : goal.returns
returns c =
    simp (c.text_word-3.ensures, c.text_word-2.ensures, c.text_word.ensures, c.decimal.ensures, c.from.ensures, c.symbol_of.ensures, c.order_of.ensures, c.exec_of.ensures, puts-puts, append_assoc)
