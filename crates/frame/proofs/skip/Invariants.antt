use mathlib.Core.Path.{◌≡◌}
use Prim.Native.Nat.{◌≤◌, ◌+◌, ◌-◌}
use lib.ListN.{length, drop}
use Rattle.frame.specs.Finding.{to_agree, skip_of}
use Rattle.octet.specs.Bytes.{agree}
use Rattle.frame.proofs.skip.Given as goal

abbrev pub invariant-compare : goal.invariant-compare
invariant-compare l = (l.i ≤ length l.o) × (agree l.o (drop l.p l.s) ≡ agree (drop l.i l.o) (drop (l.p + l.i) l.s))

abbrev pub decreases-compare : goal.decreases-compare
decreases-compare l = length l.o - l.i

abbrev pub invariant-search : goal.invariant-search
invariant-search l = (l.p ≤ length l.s + 1) × (skip_of l.o l.s ≡ l.p + to_agree l.o (drop l.p l.s))

abbrev pub decreases-search : goal.decreases-search
decreases-search l = length l.s - l.p
