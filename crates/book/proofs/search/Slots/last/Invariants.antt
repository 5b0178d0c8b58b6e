use Rattle.std.proofs.Common.{ℕ, ◌≤◌, ◌<◌, false}
use Rattle.std.specs.Fn.{FnReturnsAt}
use Rattle.fill.specs.Slot.{slot_width}
use Rattle.book.specs.Memory.{cell_at}
use Rattle.book.proofs.search.Slots.last.Given as goal

-- none from the i-th on passed
abbrev pub invariant-loop-i : goal.invariant-loop-i
invariant-loop-i g l = (k : ℕ) → l.i ≤ k → k < l.self.count → FnReturnsAt g.F.Fn l.passes (cell_at slot_width k l.self.all.now) false
