use Prim.Native.Nat.{◌*◌, ◌≤◌}
use Rattle.page.specs.Page.{page_of}
use Rattle.totals.specs.Totals.{row_lines, most_row_line, Stands}
use Rattle.totals.proofs.put_rows.Given as goal

abbrev pub invariant-loop-i : goal.invariant-loop-i
invariant-loop-i l = Stands (row_lines (page_of l.marks l.book l.i)) l.initial.page l.end l.page × (l.end ≤ most_row_line * l.i)
