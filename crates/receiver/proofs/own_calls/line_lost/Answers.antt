use Rattle.receiver.proofs.Owning.{lost-refused, lost-told}
use mathlib.Core.Path.{sym, ◌∙◌}
use Rattle.receiver.proofs.own_calls.line_lost.Goals as goal

pub returns-then-is_off : goal.returns-then-is_off
returns-then-is_off c =
    let a = c.args in
    let is-off = c.is_off in
    λ b m. c.plain.ensures ∙ lost-refused a.setup a.st b m (sym is-off.ensures ∙ c.if-is_off.true)

pub returns : goal.returns
returns c =
    let a = c.args in
    let is-off = c.is_off in
    let if1 = c.if-is_off in
    λ b m. c.plain-2.ensures ∙ lost-told a.setup a.st b m _ c.line_lost-session.ensures (sym is-off.ensures ∙ if1.false)
