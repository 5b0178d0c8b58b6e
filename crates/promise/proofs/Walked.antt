-- The day that is walked through is as it says, by computation.
use mathlib.Core.Path.{refl}
use Rattle.promise.specs.World.{step}
use Rattle.promise.specs.Walk.{Walk}
use Rattle.promise.proofs.Computing.{octets, texts, values, framing, fielding, tables, wires, reports, sessions, books, keeping, noting, calling}

pub walked : Walk
unfolding step octets texts values framing fielding tables wires reports sessions books keeping noting calling
walked = record {
  whole = record { notes = refl; lines-given = refl; contracts = refl; contracts-acknowledged = refl; contracts-waiting = refl };
  acknowledge-lost = record { notes = refl; lines-given = refl; contracts = refl; contracts-acknowledged = refl; contracts-waiting = refl };
  fill-lost = record { notes = refl; lines-given = refl; contracts = refl; contracts-acknowledged = refl; contracts-waiting = refl };
}
