-- `note::kind_for` meets its contract.
use mathlib.Core.Path.{sym, ◌∙◌}
use Rattle.note.proofs.Kinding.{kind-entry, kind-fill}
use Rattle.note.proofs.kind_for.Goals as goal

pub returns-then-is_entry : goal.returns-then-is_entry
returns-then-is_entry c = sym (kind-entry c.args.slot.now (sym c.is_entry.ensures ∙ c.if-is_entry.true))

pub returns-else-is_entry : goal.returns-else-is_entry
returns-else-is_entry c = sym (kind-fill c.args.slot.now (sym c.is_entry.ensures ∙ c.if-is_entry.false))
