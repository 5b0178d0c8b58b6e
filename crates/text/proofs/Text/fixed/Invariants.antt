use Rattle.std.proofs.Common.{◌≡◌}
use Rattle.text.specs.Decimal.{fixed}
use Rattle.text.specs.Writing.{puts}
use Rattle.text.proofs.Text.fixed.Given as goal

abbrev pub invariant-loop-left : goal.invariant-loop-left
invariant-loop-left l = puts l.self (fixed l.left l.n) ≡ puts l.initial.self (fixed l.width l.n)
