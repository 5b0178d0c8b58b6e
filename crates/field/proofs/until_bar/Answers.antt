-- The `|` is among the near bytes, or behind all of them.
use native.Mathlib.Omega.{arith}
use Rattle.octet.proofs.Lists.{part-rest, until-most, until-take, until-from}
use Rattle.field.proofs.until_bar.Goals as goal

pub overflow_add-result : goal.overflow_add-result
overflow_add-result c =
    let s = c.args.s.now in
    let far = rw (part-rest s 24) at c.until_far.ensures in
    omega (arith, far, until-take 1 24 s, until-from 1 24 s (omega (arith, until-take 1 24 s)), until-most 1 s)
