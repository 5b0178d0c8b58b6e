use Rattle.std.proofs.Common.{ℕ, ◌<◌, false}
use Rattle.std.specs.Fn.{FnReturnsAt}
use Rattle.fill.specs.Slot.{slot_width}
use Rattle.book.specs.Memory.{cell_at}
use Rattle.book.proofs.search.Slots.first.Given as goal

-- none before the i-th passed
abbrev pub invariant-loop-i : goal.invariant-loop-i
invariant-loop-i g l = (k : ℕ) → k < l.i → FnReturnsAt g.F.Fn l.passes (cell_at slot_width k l.self.all.now) false
