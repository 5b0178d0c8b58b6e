-- `table::walk::applies` meets its contract: each row applies always.
use mathlib.Core.Path.{◌≡◌, refl}
use mathlib.Core.Bool.{true}
use Rattle.table.specs.declared.Where.{Where}
use Rattle.table.specs.declared.Where.TheVariants.{Always}
use Rattle.table.specs.declared.Given.{Given}
use Rattle.table.specs.Steps.{applies}
use Rattle.table.proofs.walk.applies.Goals as goal

always : (given : Given) (place : Where) → true ≡ applies given place
always given Always = refl

pub returns : goal.returns
returns c = always c.args.given c.args.place
