use Rattle.std.proofs.Common.{◌≡◌, take}
use Rattle.text.specs.Writing.{puts}
use Rattle.text.proofs.Text.each.Given as goal

abbrev pub invariant-loop-x : goal.invariant-loop-x
invariant-loop-x l = l.self ≡ puts l.initial.self (take l.x-index l.s)
