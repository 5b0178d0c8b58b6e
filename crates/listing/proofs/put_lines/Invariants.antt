use Rattle.listing.proofs.Pages.{Lined}
use Rattle.listing.proofs.put_lines.Given as goal

abbrev pub invariant-loop-i : goal.invariant-loop-i
invariant-loop-i l = Lined l.initial.page l.book l.at l.from l.last l.page l.end l.i
