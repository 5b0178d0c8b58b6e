-- `restart::step_raises` meets its contract.
use mathlib.Core.Path.{sym, ◌∙◌}
use mathlib.Core.List.{[]}
use Rattle.note.specs.Notes.{Raises}
use Rattle.restart.specs.Steps.{bare}
use Rattle.restart.proofs.Stepping.{step-no, step-yes, on-raises}
use Rattle.restart.proofs.step_raises.Goals as goal

pub returns-then-not-raises_lawful : goal.returns-then-not-raises_lawful
returns-then-not-raises_lawful c =
    let a = c.args in
    step-no (bare a.m) (Raises a.e a.o) (sym (c.if-not-raises_lawful.true) ∙ c.raises_lawful.ensures)

pub returns : goal.returns
returns c =
    let a = c.args in
    step-yes (bare a.m) (Raises a.e a.o) _ (sym (c.if-not-raises_lawful.false) ∙ c.raises_lawful.ensures) (on-raises a.m [] a.e a.o)
