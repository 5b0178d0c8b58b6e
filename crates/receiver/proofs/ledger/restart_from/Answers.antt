use Rattle.receiver.proofs.Again.{restart-again, restart-unlawful}
use mathlib.Core.Path.{sym, ◌∙◌}
use Rattle.receiver.proofs.ledger.restart_from.Goals as goal

pub returns-in-Ok : goal.returns-in-Ok
returns-in-Ok c =
    let a = c.args in
    let restart = c.restart in
    λ b. restart-again a.st a.book.now a.notes.now a.setup b _ _ restart.ensures.1 _ _ _ c.plain.ensures
    c.awake.ensures (sym c.in-Ok.is ∙ restart.ensures.0)

pub returns-in-Err : goal.returns-in-Err
returns-in-Err c =
    let a = c.args in
    let restart = c.restart in
    λ b. restart-unlawful a.st a.book.now a.notes.now a.setup b _ _ restart.ensures.1 _ c.plain-in-Err.ensures
    (sym c.in-Err.is ∙ restart.ensures.0)
