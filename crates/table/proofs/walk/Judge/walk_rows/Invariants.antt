-- The walk of the whole list is the walk of the rows that are left.
use mathlib.Core.Path.{◌≡◌}
use lib.ListN.{drop}
use Rattle.field.specs.Look.{seen_by}
use Rattle.table.specs.Rows.{rows_in}
use Rattle.table.specs.Steps.{walk}
use Rattle.table.proofs.walk.Judge.walk_rows.Given as goal

abbrev pub invariant-loop-row : goal.invariant-loop-row
invariant-loop-row l = let look = seen_by l.self.look in walk l.self.given look (rows_in l.rows) ≡ walk l.self.given look (drop l.row-index (rows_in l.rows))
