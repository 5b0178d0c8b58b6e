use mathlib.Core.Path.{sym, ◌∙◌}
use Rattle.octet.proofs.Cases.{cond-true, cond-false}
use Rattle.receiver.proofs.deeds.numbered.Goals as goal

pub returns-then-is_entry : goal.returns-then-is_entry
returns-then-is_entry c = sym (cond-true _ _ _ (sym c.is_entry.ensures ∙ c.if-is_entry.true))

pub returns : goal.returns
returns c = sym (cond-false _ _ _ (sym c.is_entry.ensures ∙ c.if-is_entry.false))
