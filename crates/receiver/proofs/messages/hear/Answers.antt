use mathlib.Core.Path.{sym, ◌∙◌}
use Rattle.receiver.proofs.Framing.{heard-more, heard-garbled, heard-framed}
use Rattle.receiver.proofs.messages.hear.Goals as goal

pub returns-in-More : goal.returns-in-More
returns-in-More c =
    let a = c.args in
    let find = c.find in
    heard-more a.setup a.st a.book.now a.time.now a.bytes.now (sym c.in-More.is ∙ find.ensures) c.plain.ensures

pub returns-in-Garbled : goal.returns-in-Garbled
returns-in-Garbled c =
    let a = c.args in
    let find = c.find in
    heard-garbled a.setup a.st a.book.now a.time.now a.bytes.now _ (sym c.in-Garbled.is ∙ find.ensures) c.plain-in-Garbled.ensures

pub returns-in-Framed : goal.returns-in-Framed
returns-in-Framed c =
    let a = c.args in
    let find = c.find in
    let body = c.body in
    let respond = c.respond in
    heard-framed a.setup a.st a.book.now a.time.now a.bytes.now _ (sym c.in-Framed.is ∙ find.ensures) body.ensures respond.ensures
