-- `table::walk::Judge::walk_rows` meets its contract, row by row.
use mathlib.Core.Path.{refl}
use Rattle.std.proofs.lemmas.Result.{err_from_is_err_and}
use Rattle.field.specs.Look.{seen_by}
use Rattle.table.specs.Rows.{rows_in}
use Rattle.table.proofs.Walks.{row-column, walk-stops, walk-goes, walk-ends}
use Rattle.table.proofs.walk.Judge.walk_rows.Goals as goal

pub loop-row-init : goal.loop-row-init
loop-row-init c = refl

pub row_fault-requires : goal.row_fault-requires
row_fault-requires c = let look = seen_by c.args.self.look in row-column c.args.self.given look (rows_in c.args.rows.now) _ c.requires _ c.loop-row-test.true _

pub returns-in_err-row_fault : goal.returns-in_err-row_fault
returns-in_err-row_fault c =
    let p = err_from_is_err_and c.from_residual.result c.from_residual.ensures.1 in
    rw (p.1, p.2) (walk-stops _ _ (rows_in c.args.rows.now) _ c.requires _ c.loop-row-test.true _ c.loop-row.invariant _ c.in_err-row_fault.ensures)

pub loop-row-preserved : goal.loop-row-preserved
loop-row-preserved c = walk-goes _ _ (rows_in c.args.rows.now) _ c.requires _ c.loop-row-test.true _ c.loop-row.invariant c.in_ok-row_fault.ensures

pub returns : goal.returns
returns c = walk-ends _ _ (rows_in c.args.rows.now) _ c.requires _ c.loop-row-test.false c.loop-row.invariant
