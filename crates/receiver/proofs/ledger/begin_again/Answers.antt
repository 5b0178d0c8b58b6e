-- `receiver::ledger::begin_again` meets its contract.
use mathlib.Core.Path.{◌∙◌}
use Rattle.receiver.proofs.Again.{begun-told}
use Rattle.receiver.proofs.ledger.begin_again.Goals as goal

pub returns : goal.returns
returns c =
    let a = c.args in
    λ b m. c.plain.ensures ∙ begun-told a.st a.setup b m c.begin_again-marks.ensures
