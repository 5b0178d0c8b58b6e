-- The piece at a place, and the place after it.
use mathlib.Core.Path.{ap}
use native.Mathlib.Omega.{arith}
use lib.ListN.{length}
use Rattle.field.proofs.Cuts.{stepped, rest_end}
use Rattle.field.proofs.WalkIterator.next.Goals as goal

pub returns-then-self-clause-steps : goal.returns-then-self-clause-steps
returns-then-self-clause-steps c = let e = rest_end c.args.self.now.body.now c.args.self.now.at c.if-self.true in (e, e)

pub returns-clause-steps : goal.returns-clause-steps
returns-clause-steps c = stepped c.args.self.now.body.now c.args.self.now.at c.if-self.false c.step_from-piece.ensures

pub returns-clause-goes : goal.returns-clause-goes
returns-clause-goes c =
    let e = ap length (stepped c.args.self.now.body.now c.args.self.now.at c.if-self.false c.step_from-piece.ensures) in
    record { on = λ f. (tt, tt, omega (arith, e)); keeps = tt; rests = λ f. tt }
