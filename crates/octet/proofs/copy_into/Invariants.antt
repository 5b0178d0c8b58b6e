-- The bytes before the place of the turn are pasted.
use mathlib.Core.Path.{◌≡◌}
use lib.Seq.{paste}
use Rattle.octet.proofs.copy_into.Given as goal

abbrev pub invariant-loop-i : goal.invariant-loop-i
invariant-loop-i l = l.dst ≡ paste l.initial.dst l.at l.src l.i
