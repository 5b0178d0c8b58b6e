use mathlib.Core.Path.{◌≡◌}
use Prim.Native.Nat.{◌+◌, ◌-◌, ◌*◌, ◌≤◌}
use lib.ListN.{drop}
use Rattle.book.specs.Memory.{most_slots, slots_in}
use Rattle.answer.specs.Numbers.{largest}
use Rattle.listing.specs.Listing.{contracts}
use Rattle.listing.proofs.sum_from.Given as goal

abbrev pub invariant-loop-i : goal.invariant-loop-i
invariant-loop-i l =
    (l.sum + contracts (drop l.i (slots_in l.last l.book)) ≡ contracts (drop l.from (slots_in l.last l.book))) × (l.sum + (l.last - l.i) * largest ≤ most_slots * largest)
