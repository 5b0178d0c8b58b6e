-- `value::price_at_front` meets its contract, with and without a point.
use mathlib.Core.Path.{sym, ap, ◌∙◌}
use Prim.Native.Nat.{◌+◌}
use Rattle.octet.proofs.Lists.{part-rest}
use Rattle.text.specs.Decimal.{digits_at_front}
use Rattle.value.proofs.Prices.{front-plain, front-pointed}
use Rattle.value.proofs.price_at_front.Goals as goal

pub returns-then-not-is_point : goal.returns-then-not-is_point
returns-then-not-is_point c =
    rw c.from-price.ensures (front-plain _ _ c.read_digits-whole.ensures.value (sym c.is_point.ensures ∙ c.if-not-is_point.true))

pub returns : goal.returns
returns c =
    let v = c.args.v.now in
    rw (c.from-price.ensures, c.from.ensures)
    (front-pointed v _ c.read_digits-whole.ensures.value _ _
    (c.read_digits-rest.ensures.value ∙ ap (digits_at_front 4) (part-rest v (c.read_digits-whole.result.len + 1)))
    c.scale.ensures
    (sym c.is_point.ensures ∙ c.if-not-is_point.false))
