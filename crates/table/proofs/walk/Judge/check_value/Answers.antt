-- `table::walk::Judge::check_value` meets its contract: each arm knows its form.
use mathlib.Core.Path.{ap, ◌∙◌}
use mathlib.Core.Option.{none}
use Rattle.value.specs.Readers.{checked, time_checked, code_checked}
use Rattle.table.specs.Steps.{bad_form, fits}
use Rattle.table.proofs.walk.Judge.check_value.Goals as goal

pub returns-in-Price : goal.returns-in-Price
unfolding bad_form fits
returns-in-Price c = rw c.in-Price.is c.check_price.ensures

pub returns-in-Time : goal.returns-in-Time
unfolding bad_form fits time_checked
returns-in-Time c = rw c.in-Time.is c.read_time.ensures

pub returns-in-Text : goal.returns-in-Text
unfolding bad_form fits
returns-in-Text c = rw c.in-Text.is (c.fitted.ensures ∙ ap (checked none) c.is_in_range.ensures)

pub returns-in-Code : goal.returns-in-Code
unfolding bad_form fits code_checked
returns-in-Code c = rw (c.in-Code.is, ← c.codes_of.ensures) c.read_code.ensures

pub returns-in-Security : goal.returns-in-Security
unfolding bad_form fits
returns-in-Security c = rw c.in-Security.is (c.fitted-in-Security.ensures ∙ ap (checked none) c.is_security.ensures)
