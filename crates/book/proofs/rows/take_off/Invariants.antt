use Rattle.book.proofs.Written.{Taking}
use Rattle.book.proofs.rows.take_off.Given as goal

abbrev pub invariant-loop-i : goal.invariant-loop-i
invariant-loop-i l = Taking l.initial.book l.book l.last l.orders l.from l.to l.day l.left l.i
