-- `table::walk::check_price` meets its contract: only form can fail.
use mathlib.Core.Path.{sym, ap, ◌∙◌}
use mathlib.Core.Option.{Option}
use mathlib.Core.Bool.{true}
use Prim.Native.Nat.{ℕ}
use Rattle.std.proofs.lemmas.Result.{err_from_is_err_and}
use Rattle.value.specs.Readers.{checked}
use Rattle.value.proofs.Prices.{price-good}
use Rattle.table.proofs.Values.{price-refused}
use Rattle.table.proofs.walk.check_price.Goals as goal

pub returns-in_err-read_price : goal.returns-in_err-read_price
returns-in_err-read_price c =
    let p = err_from_is_err_and c.from_residual.result c.from_residual.ensures.1 in
    rw (p.1, p.2) (price-refused _ _ (sym c.read_price.ensures.value ∙ c.in_err-read_price.was))

pub returns : goal.returns
returns c = sym (ap (λ (o : Option ℕ). checked o true) (price-good c.args.v.now _ (sym c.read_price.ensures.value ∙ c.in_ok-read_price.was)).formed)
