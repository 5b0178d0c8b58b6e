-- `note::slot_widths` meets its contract.
use mathlib.Core.Path.{sym}
use borrow.Author.Tests.{eq-eqb, ne_eqb}
use Rattle.octet.proofs.Cases.{cond-true, cond-false}
use Rattle.fill.specs.Slot.{entry_mark, widths}
use Rattle.fill.specs.Entry.{entry_widths}
use Rattle.note.proofs.slot_widths.Goals as goal

pub returns-then-mark-eq-IS_ENTRY : goal.returns-then-mark-eq-IS_ENTRY
returns-then-mark-eq-IS_ENTRY c = sym (cond-true _ entry_widths widths (eq-eqb c.args.mark entry_mark c.if-mark-eq-IS_ENTRY.true))

pub returns-else-mark-eq-IS_ENTRY : goal.returns-else-mark-eq-IS_ENTRY
returns-else-mark-eq-IS_ENTRY c = sym (cond-false _ entry_widths widths (ne_eqb c.args.mark entry_mark c.if-mark-eq-IS_ENTRY.false))
