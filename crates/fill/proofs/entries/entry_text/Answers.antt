use mathlib.Core.Path.{◌∙◌}
use Rattle.fill.proofs.Lines.{entry-words}
use Rattle.fill.proofs.entries.entry_text.Goals as goal

pub returns : goal.returns
returns c =
    entry-words c.args.n c.args.s.now _ _ _ _ _ _ _ _ _ _ _ _ _
    c.put.ensures c.from.ensures c.number_word.ensures
    c.trade_of.ensures c.text_word.ensures
    (c.from-2.ensures ∙ c.number_of.ensures) c.number_word-2.ensures
    (c.from-3.ensures ∙ c.side_of.ensures) c.number_word-3.ensures
    (c.from-4.ensures ∙ c.transaction_of.ensures) c.number_word-4.ensures c.put-2.ensures
