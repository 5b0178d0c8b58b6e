use mathlib.Core.Path.{sym}
use native.Mathlib.Omega.{arith}
use Rattle.book.proofs.Regions.{slots-wide}
use Rattle.book.proofs.search.Slots.of.Goals as goal

pub slice_bounds-result-end : goal.slice_bounds-result-end
slice_bounds-result-end c = sym (slots-wide c.args.book.now (omega arith))

pub invariant_of-result : goal.invariant_of-result
invariant_of-result c = record { inside = (omega arith, slots-wide c.args.book.now (omega arith)) }
