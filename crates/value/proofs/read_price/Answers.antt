-- `value::read_price` meets its contract, by form.
use mathlib.Core.Path.{sym, subst}
use mathlib.Core.Logic.{⊎_elim}
use Prim.Native.Nat.{ℕ, ◌≤◌}
use Rattle.value.proofs.Prices.{price-short, price-part, price-whole, price-front, price-small}
use Rattle.value.proofs.read_price.Goals as goal

pub returns-then-good-v-clause-value : goal.returns-then-good-v-clause-value
returns-then-good-v-clause-value c =
    let e = c.price_at_front-good.ensures in
    ⊎_elim (λ h. price-short _ _ e h) (λ h. price-part _ _ e h.1) c.then-good-v.either

pub returns-clause-value : goal.returns-clause-value
returns-clause-value c = price-whole _ _ c.price_at_front-good.ensures c.if-good-v.false c.if-not-complete.false

pub returns-clause-price_fits : goal.returns-clause-price_fits
returns-clause-price_fits c =
    let v = c.args.v.now in
    subst (λ (n : ℕ). n ≤ 99999999999) (sym (price-front v _ c.price_at_front-good.ensures)) (price-small v)
