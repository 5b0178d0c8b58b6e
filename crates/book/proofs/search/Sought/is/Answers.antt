use mathlib.Core.Path.{sym, ◌∙◌}
use Rattle.octet.proofs.Places.{word-differs}
use Rattle.std.proofs.lemmas.Bool.{eqb-false}
use Rattle.book.proofs.search.Sought.is.Goals as goal

pub returns-else-may_be : goal.returns-else-may_be
returns-else-may_be c =
    let a = c.args in
    let other = eqb-false _ _ (sym c.may_be.ensures ∙ c.if-may_be.false) in
    c.if-may_be.false ∙ sym (word-differs a.self.now.at a.self.now.id.now a.id.now (λ e. other (sym e ∙ sym a.self.now.told)))
