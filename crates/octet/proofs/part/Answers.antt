-- `octet::part` meets its contract.
use borrow.Author.Rules.{rules}
use mathlib.Core.Path.{sym, ◌∙◌}
use Rattle.octet.proofs.Lists.{part-past, part-all, part-rest, part-sized}
use Rattle.octet.proofs.part.Goals as goal

pub returns-then-s-at : goal.returns-then-s-at
returns-then-s-at c =
    let a = c.args in
    sym (part-past a.at a.n a.s.now c.if-s-at.true)

pub returns-then-s-at-2 : goal.returns-then-s-at-2
returns-then-s-at-2 c =
    let a = c.args in
    part-rest a.s.now a.at ∙ sym (part-all a.at a.n a.s.now (search rules))

pub returns : goal.returns
returns c =
    let a = c.args in
    part-sized a.s.now a.at a.n
