use Prim.Native.Nat.{ℕ, ◌*◌}
use Rattle.book.specs.Memory.{rows_here, region_of}
use Rattle.book.specs.Rows.{row_width}
use Rattle.octet.proofs.Lists.{part-past, part-most, part-part}
use Rattle.octet.specs.Bytes.{part}
use mathlib.Core.Path.{sym, ap, ◌∙◌}
use native.Mathlib.Omega.{arith}
use Rattle.book.proofs.rows.row_at.Goals as goal

pub returns-then-i-ge-ROWS : goal.returns-then-i-ge-ROWS
returns-then-i-ge-ROWS c =
    let a = c.args in
    let m = a.book.now in
    c.part.ensures ∙ sym (part-past (a.i * row_width) row_width (region_of rows_here m) (omega (arith, part-most rows_here.at rows_here.wide m)))

pub returns : goal.returns
returns c =
    let a = c.args in
    let m = a.book.now in
    c.part-2.ensures
    ∙ ap (λ (p : ℕ). part p row_width m) c.row_place.ensures
    ∙ sym (part-part rows_here.at rows_here.wide (a.i * row_width) row_width m (omega arith))
