-- `queue::Marks::new_day` meets its contract. The lent book is not touched.
use mathlib.Core.Path.{refl, ap, ◌∙◌}
use Rattle.std.specs.Prelude.{Ok}
use native.Mathlib.Omega.{arith}
use Rattle.queue.proofs.Offering.{day-waiting, day-fresh}
use Rattle.queue.proofs.Marks.new_day.Goals as goal

pub returns-then-self : goal.returns-then-self
returns-then-self c =
    let a = c.args in
    (day-waiting a.self (omega arith), refl)

pub returns : goal.returns
returns c =
    let a = c.args in
    (ap Ok c.none.ensures ∙ day-fresh a.self (omega arith), refl)
