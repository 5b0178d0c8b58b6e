use mathlib.Core.Path.{sym, ap, ◌∙◌}
use Rattle.text.specs.Writing.{puts}
use Rattle.fill.proofs.Lines.{line-entry, line-fill}
use Rattle.fill.proofs.line_text.Goals as goal

pub returns-then-is_entry : goal.returns-then-is_entry
returns-then-is_entry c =
    let a = c.args in
    c.entry_text.ensures ∙ sym (ap (puts a.t.now) (line-entry a.n a.s.now (sym c.is_entry.ensures ∙ c.if-is_entry.true)))

pub returns-else-is_entry : goal.returns-else-is_entry
returns-else-is_entry c =
    let a = c.args in
    c.fill_text.ensures ∙ sym (ap (puts a.t.now) (line-fill a.n a.s.now (sym c.is_entry.ensures ∙ c.if-is_entry.false)))
