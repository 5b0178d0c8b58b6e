use lib.ListN.{length}
use Rattle.parts.proofs.Relaying.{Going}
use Rattle.parts.proofs.relay_each.Given as goal

abbrev pub invariant-loop-f : goal.invariant-loop-f
invariant-loop-f l = Going l.initial.dst l.at l.src l.from l.to l.dst (length l.yielded) l.p l.q
