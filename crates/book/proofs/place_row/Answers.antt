use Rattle.book.proofs.Cells.{cells-length}
use Rattle.book.proofs.Rowing.{rows-unknown}
use Rattle.book.specs.Memory.{slots_in, rows_in, region_of, rows_here}
use Rattle.book.specs.Rows.{row_width}
use mathlib.Core.Path.{sym, ◌∙◌}
use Rattle.book.proofs.place_row.Goals as goal

pub returns-else-known : goal.returns-else-known
returns-else-known c =
    let a = c.args in
    let m = a.book.now in
    sym (rows-unknown a.slot.now (slots_in a.last m) (rows_in a.orders m) (c.requires c.if-known.false) ∙ cells-length row_width a.orders (region_of rows_here m))

pub returns-then-known : goal.returns-then-known
returns-then-known c = c.find_row.ensures
