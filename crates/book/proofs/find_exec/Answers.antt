use borrow.Author.Rules.{rules}
use Rattle.book.specs.Seeing.{is_exec}
use Rattle.book.proofs.Found.{last-found}
use Rattle.book.proofs.find_exec.Goals as goal

pub returns : goal.returns
returns c =
    let a = c.args in
    last-found (is_exec a.exec.now.id.now) a.slots.now.all.now a.slots.now.count c.last.ensures (λ s b k. search rules)
