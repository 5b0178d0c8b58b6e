use mathlib.Core.Path.{◌≡◌}
use Prim.Native.Nat.{◌≤◌, ◌-◌, ◌+◌}
use lib.ListN.{length}
use Rattle.octet.specs.Bytes.{until_byte}
use Rattle.octet.proofs.until_far.Given as goal

abbrev pub invariant-loop-many : goal.invariant-loop-many
invariant-loop-many l =
    (length l.rest ≤ length l.s) × (until_byte l.b l.s ≡ length l.s - length l.rest + until_byte l.b l.rest)

abbrev pub decreases-loop-many : goal.decreases-loop-many
decreases-loop-many l = length l.rest
