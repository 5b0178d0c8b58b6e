use Rattle.receiver.proofs.Owning.{own-refused, own_granted}
use Rattle.receiver.proofs.Refusing.{granted-rooms}
use Rattle.receiver.specs.Steps.{lent_to}
use lib.ListN.{length}
use mathlib.Core.Path.{sym, ◌∙◌}
use Rattle.receiver.proofs.own_calls.own_call.Goals as goal

pub speak-requires : goal.speak-requires
speak-requires c =
    let may_write = c.may_write in
    granted-rooms _ _ _ _ _ _ (sym c.in-Ok.is ∙ may_write.ensures)

pub returns-in-Err : goal.returns-in-Err
returns-in-Err c =
    let a = c.args in
    let may-call = c.may_call-allowed in
    let may_write = c.may_write in
    λ m. own-refused a.setup a.st a.what a.time.now (lent_to (length a.reply.now) (length a.note.now)) m may-call.ensures _
    a.reply.now a.note.now (sym c.in-Err.is ∙ may_write.ensures) c.plain.ensures

pub returns-in-Ok : goal.returns-in-Ok
returns-in-Ok c =
    let a = c.args in
    let may-call = c.may_call-allowed in
    let may_write = c.may_write in
    let own = c.own in
    let says = c.says in
    let speak = c.speak in
    λ m. own_granted a.setup a.st a.what a.time.now (lent_to (length a.reply.now) (length a.note.now)) m may-call.ensures
    (sym c.in-Ok.is ∙ may_write.ensures) own.ensures says.ensures (speak.ensures m)
