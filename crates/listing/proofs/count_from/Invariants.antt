use mathlib.Core.Path.{◌≡◌}
use Prim.Native.Nat.{◌+◌, ◌≤◌}
use lib.ListN.{drop}
use Rattle.book.specs.Memory.{slots_in}
use Rattle.book.specs.Orders.{fills_of}
use Rattle.listing.proofs.count_from.Given as goal

abbrev pub invariant-loop-i : goal.invariant-loop-i
invariant-loop-i l = (l.fills + fills_of (drop l.i (slots_in l.last l.book)) ≡ fills_of (drop l.from (slots_in l.last l.book))) × (l.fills ≤ l.i)
