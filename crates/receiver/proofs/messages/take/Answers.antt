use mathlib.Core.Path.{sym, ◌∙◌}
use lib.ListN.{length}
use Rattle.receiver.specs.Steps.{lent_to}
use Rattle.receiver.proofs.Refusing.{granted-rooms}
use Rattle.receiver.proofs.Framing.{taken_refused, taken-granted}
use Rattle.receiver.proofs.messages.take.Goals as goal

pub hear-requires : goal.hear-requires
hear-requires c = granted-rooms _ _ _ _ _ _ (sym c.in-Ok.is ∙ c.may_write.ensures)

pub returns-in-Err : goal.returns-in-Err
returns-in-Err c =
    let a = c.args in
    let is-on = c.is_on-allowed in
    let may_write = c.may_write in
    taken_refused a.setup a.st a.book.now a.time.now a.bytes.now (lent_to (length a.reply.now) (length a.note.now))
    is-on.ensures _ (sym c.in-Err.is ∙ may_write.ensures) c.plain.ensures

pub returns-in-Ok : goal.returns-in-Ok
returns-in-Ok c =
    let a = c.args in
    let is-on = c.is_on-allowed in
    let may_write = c.may_write in
    let hear = c.hear in
    taken-granted a.setup a.st a.book.now a.time.now a.bytes.now (lent_to (length a.reply.now) (length a.note.now))
    is-on.ensures (sym c.in-Ok.is ∙ may_write.ensures) hear.ensures
