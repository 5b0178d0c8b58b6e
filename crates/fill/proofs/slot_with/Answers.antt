use native.Mathlib.Omega.{arith}
use Prim.Native.Nat.{◌<◌}
use mathlib.Core.Path.{refl}
use Rattle.fill.proofs.Fields.{slot-made}
use Rattle.fill.proofs.slot_with.Goals as goal

pub returns : goal.returns
returns c =
    let small : c.args.side < 256 = omega (arith, c.ranges) in
    slot-made _ _ _ _ _ _ _ _ _ _ _ refl small
    c.put_text.ensures c.put_text-2.ensures c.put_text-3.ensures refl
    c.put_four.ensures.1 c.put_four-2.ensures.1 c.put_eight.ensures.1 c.put_four-3.ensures.1
    c.put_time.ensures
