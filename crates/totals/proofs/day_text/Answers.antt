-- `totals::day_text` meets its contract.
use native.Mathlib.Omega.{arith}
use Rattle.totals.proofs.Lines.{day-most}
use Rattle.totals.proofs.day_text.Goals as goal

pub returns-clause-most : goal.returns-clause-most
returns-clause-most c = day-most c.args.day (omega arith)
