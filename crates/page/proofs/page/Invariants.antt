-- The first i rows are the page's, and the rest are as they were.
use mathlib.Core.Path.{◌≡◌}
use Rattle.page.proofs.Upto.{upto}
use Rattle.page.proofs.page.Given as goal

abbrev pub invariant-loop-i : goal.invariant-loop-i
invariant-loop-i l = l.row-items ≡ upto l.marks l.book l.i l.initial.row-items
