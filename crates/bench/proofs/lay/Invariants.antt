-- Each loop has laid the numbers of so many columns over what the one before left.
use Rattle.std.proofs.Common.{◌≡◌}
use Rattle.bench.proofs.Laying.{laid, start, len, count}
use Rattle.bench.proofs.lay.Given as goal

abbrev pub invariant-loop-i : goal.invariant-loop-i
invariant-loop-i l = l.cells ≡ laid start l.initial.cells 0 l.columns l.i

abbrev pub invariant-loop-j : goal.invariant-loop-j
invariant-loop-j l = l.cells ≡ laid len l.initial.cells 35 l.columns l.j

abbrev pub invariant-loop-k : goal.invariant-loop-k
invariant-loop-k l = l.cells ≡ laid count l.initial.cells 70 l.columns l.k
