-- `table::walk::Judge::check_number` meets its contract: what is read is a number of nine digits at most, so that only form can fail there.
use mathlib.Core.Path.{sym, ap, ◌∙◌}
use mathlib.Core.Option.{none}
use Rattle.std.proofs.lemmas.Result.{err_from_is_err_and}
use Rattle.value.specs.Readers.{checked}
use Rattle.table.proofs.Values.{number-formed, number-refused}
use Rattle.table.proofs.walk.Judge.check_number.Goals as goal

pub returns-in_err-n : goal.returns-in_err-n
returns-in_err-n c =
    let p = err_from_is_err_and c.from_residual.result c.from_residual.ensures.1 in
    rw (p.1, p.2) (number-refused _ _ _ _ _ (sym c.read_number.ensures.value ∙ c.in_err-n.was))

pub returns : goal.returns
returns c = c.fitted.ensures ∙ ap (checked none) c.is_in_range.ensures ∙ number-formed _ _ _ _ _ (sym c.read_number.ensures.value ∙ c.in_ok-n.was)
