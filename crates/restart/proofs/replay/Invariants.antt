use mathlib.Core.Path.{◌≡◌}
use Prim.Native.Nat.{◌-◌, ◌≤◌}
use lib.ListN.{length, drop}
use Rattle.book.specs.Memory.{book_width}
use Rattle.restart.specs.Restart.{restart}
use Rattle.restart.specs.Steps.{kept_in}
use Rattle.restart.proofs.Going.{go}
use Rattle.restart.proofs.replay.Given as goal

abbrev pub invariant-loop-at : goal.invariant-loop-at
invariant-loop-at l = (restart l.notes ≡ go (kept_in l.m l.mem) l.at (drop l.at l.notes)) × (l.at ≤ length l.notes) × (length l.mem ≡ book_width)

abbrev pub decreases-loop-at : goal.decreases-loop-at
decreases-loop-at l = length l.notes - l.at
