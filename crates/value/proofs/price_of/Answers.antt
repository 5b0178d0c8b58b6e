-- `value::price_of` meets its contract, by the value's front.
use mathlib.Core.Path.{sym, subst}
use Prim.Native.Nat.{ℕ, ◌≤◌}
use Rattle.value.proofs.Prices.{price-front, price-small}
use Rattle.value.proofs.price_of.Goals as goal

pub returns-clause-value : goal.returns-clause-value
returns-clause-value c = price-front c.args.v.now _ c.price_at_front.ensures

pub returns-clause-upper_bound : goal.returns-clause-upper_bound
returns-clause-upper_bound c =
    let v = c.args.v.now in
    subst (λ (n : ℕ). n ≤ 99999999999) (sym (price-front v _ c.price_at_front.ensures)) (price-small v)
