-- `restart::step_clears` meets its contract.
use mathlib.Core.Path.{sym, ◌∙◌}
use mathlib.Core.List.{[]}
use lib.ListN.{length}
use borrow.Author.Tests.{eq-eqb, ne_eqb}
use Rattle.book.specs.Memory.{slots_in}
use Rattle.note.specs.Notes.{Clears}
use Rattle.restart.specs.Steps.{bare}
use Rattle.restart.proofs.Stepping.{clears-by, step-no, step-yes, last-is, on-clears}
use Rattle.restart.proofs.step_clears.Goals as goal

pub returns-then-m : goal.returns-then-m
returns-then-m c =
    let a = c.args in
    step-no (bare a.m) Clears
    (clears-by (bare a.m) (ne_eqb a.m.acked (length (slots_in a.m.last [])) (λ e. c.if-m.true (e ∙ last-is a.m []))))

pub returns : goal.returns
returns c =
    let a = c.args in
    step-yes (bare a.m) Clears _
    (clears-by (bare a.m) (eq-eqb a.m.acked (length (slots_in a.m.last [])) (c.if-m.false ∙ sym (last-is a.m []))))
    (c.empty_counts.ensures ∙ on-clears a.m [])
