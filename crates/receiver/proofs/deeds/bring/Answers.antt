use Rattle.receiver.proofs.Deciding.{brings-settled, brings-report, brings-correction}
use mathlib.Core.Path.{sym, ◌∙◌}
use Rattle.receiver.proofs.deeds.bring.Goals as goal

pub returns-in-Settled : goal.returns-in-Settled
returns-in-Settled c =
    let a = c.args in
    brings-settled a.setup a.session a.look.body.now c.requires c.findings_of-found.ensures _ (sym c.in-Settled.is ∙ c.judge.ensures)

pub returns-in-Report : goal.returns-in-Report
returns-in-Report c =
    let a = c.args in
    brings-report a.setup a.session a.look.body.now c.requires c.findings_of-found.ensures _ (sym c.in-Report.is ∙ c.judge.ensures) c.of_report.ensures

pub returns-in-Correction : goal.returns-in-Correction
returns-in-Correction c =
    let a = c.args in
    brings-correction a.setup a.session a.look.body.now c.requires c.findings_of-found.ensures _ (sym c.in-Correction.is ∙ c.judge.ensures) c.entry_into.ensures
