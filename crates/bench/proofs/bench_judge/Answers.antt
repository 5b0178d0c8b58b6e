use mathlib.Core.Path.{sym, ap, ◌∙◌}
use Rattle.receiver.specs.declared.State.{State as Stored}
use Rattle.bench.specs.Timed.{verdict_number}
use Rattle.bench.proofs.Told.{judged-body}
use Rattle.bench.proofs.bench_judge.Goals as goal

pub returns-in-Settled : goal.returns-in-Settled
returns-in-Settled c =
    c.number.ensures
    ∙ ap verdict_number (judged-body c.args.body.now c.agreed-setup.ensures (ap (λ (x : Stored). x.session) c.online.ensures) c.index_into-scan.ensures c.findings_of-found.ensures (sym c.in-Settled.is ∙ c.judge.ensures))

pub returns-in-Report : goal.returns-in-Report
returns-in-Report c =
    ap verdict_number (judged-body c.args.body.now c.agreed-setup.ensures (ap (λ (x : Stored). x.session) c.online.ensures) c.index_into-scan.ensures c.findings_of-found.ensures (sym c.in-Report.is ∙ c.judge.ensures))

pub returns-in-Correction : goal.returns-in-Correction
returns-in-Correction c =
    ap verdict_number (judged-body c.args.body.now c.agreed-setup.ensures (ap (λ (x : Stored). x.session) c.online.ensures) c.index_into-scan.ensures c.findings_of-found.ensures (sym c.in-Correction.is ∙ c.judge.ensures))
