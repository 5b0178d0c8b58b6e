use native.Mathlib.Omega.{arith}
use Prim.Native.Nat.{◌<◌}
use mathlib.Core.Path.{refl}
use lib.ListN.{length-set}
use Rattle.fill.proofs.Entry.{entry-put}
use borrow.Author.Rules.{rules}
use Rattle.fill.proofs.entries.entry_with.Goals as goal

-- three stores leave the slot as long as it was
pub put_text-requires-2 : goal.put_text-requires-2
put_text-requires-2 c = simp length-set (search rules)

pub returns : goal.returns
returns c =
    let a = c.args in
    let side : a.side < 256 = omega (arith, c.ranges) in
    let transaction : a.transaction < 256 = omega (arith, c.ranges) in
    let correction : a.correction < 256 = omega (arith, c.ranges) in
    entry-put _ _ _ _ _ _ _ _ _ _ side transaction correction
    c.put_text.ensures c.put_four.ensures.1 refl refl refl
    c.put_text-2.ensures c.put_four-2.ensures.1 c.put_eight.ensures.1
    c.put_time.ensures
