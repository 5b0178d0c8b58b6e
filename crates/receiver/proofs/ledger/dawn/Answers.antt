-- `receiver::ledger::dawn` meets its contract.
use mathlib.Core.Path.{refl, sym, ap, ◌∙◌}
use Rattle.receiver.specs.declared.Answer.TheVariants.{Done}
use Rattle.receiver.specs.Steps.{plainly}
use Rattle.receiver.proofs.Queueing.{dawn-fresh, dawn-clears, clears-told}
use Rattle.receiver.proofs.ledger.dawn.Goals as goal

pub returns-then-is_fresh : goal.returns-then-is_fresh
returns-then-is_fresh c =
    let a = c.args in
    let is-fresh = c.is_fresh in
    let if1 = c.if-is_fresh in
    let fresh = c.fresh in
    dawn-fresh a.st a.note.now (sym is-fresh.ensures ∙ if1.true) (c.plain.ensures ∙ ap (plainly Done) fresh.ensures) refl

pub returns : goal.returns
returns c =
    let a = c.args in
    let pre = c.requires in
    let is-fresh = c.is_fresh in
    let if1 = c.if-is_fresh in
    let fresh2 = c.fresh-2 in
    let put-clears = c.put_clears in
    dawn-clears a.st a.note.now (sym is-fresh.ensures ∙ if1.false)
    (clears-told a.note.now _ _ pre fresh2.ensures put-clears.ensures.0)
    put-clears.ensures.1
