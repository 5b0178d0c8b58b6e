use Rattle.book.proofs.Cells.{cells-nth}
use Rattle.book.proofs.Regions.{rows-length}
use Rattle.book.specs.Memory.{rows_here, region_of, rows_in}
use Rattle.book.specs.Rows.{row_width}
use lib.ListN.{get_or-eq_default}
use mathlib.Core.List.{[]}
use mathlib.Core.Path.{sym, ◌∙◌}
use native.Mathlib.Omega.{arith}
use Rattle.book.proofs.rows.row_in.Goals as goal

pub returns-then-orders-i : goal.returns-then-orders-i
returns-then-orders-i c =
    let a = c.args in
    let m = a.book.now in
    c.part.ensures ∙ sym (get_or-eq_default (rows_in a.orders m) [] (omega (arith, rows-length a.orders m)))

pub returns : goal.returns
returns c =
    let a = c.args in
    c.row_at.ensures ∙ sym (cells-nth row_width a.orders a.i (region_of rows_here a.book.now) (omega arith))
