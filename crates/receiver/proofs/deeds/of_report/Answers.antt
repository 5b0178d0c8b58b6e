use Rattle.field.specs.Look.{seen_by}
use Rattle.receiver.proofs.Deciding.{reports-faulty, reports-aside, reports-fill}
use mathlib.Core.Path.{sym, ◌∙◌}
use Rattle.receiver.proofs.deeds.of_report.Goals as goal

pub returns-in-Err : goal.returns-in-Err
returns-in-Err c =
    let a = c.args in
    reports-faulty a.session (seen_by a.look) a.n _ (sym c.in-Err.is ∙ c.reported_into.ensures.0) c.rejected.ensures

pub returns-in-Ok-Aside : goal.returns-in-Ok-Aside
returns-in-Ok-Aside c =
    let a = c.args in
    reports-aside a.session (seen_by a.look) a.n (rw c.in-Ok-Aside.field-0-is at (sym c.in-Ok-Aside.is ∙ c.reported_into.ensures.0)) c.passed.ensures

pub returns-in-Ok-Fill : goal.returns-in-Ok-Fill
returns-in-Ok-Fill c =
    let a = c.args in
    reports-fill a.session (seen_by a.look) a.n a.slot.now (rw c.in-Ok-Fill.field-0-is at (sym c.in-Ok-Fill.is ∙ c.reported_into.ensures.0))
    c.reported_into.ensures.1
