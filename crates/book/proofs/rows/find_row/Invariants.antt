use Prim.Native.Nat.{◌+◌}
use Rattle.book.specs.Memory.{slots_in, rows_in}
use Rattle.book.specs.Rows.{before, is_row_of}
use lib.ListN.{drop}
use mathlib.Core.Path.{◌≡◌}
use Rattle.book.proofs.rows.find_row.Given as goal

abbrev pub invariant-loop-i : goal.invariant-loop-i
invariant-loop-i l =
    l.i + before (is_row_of (slots_in l.last l.book) l.slot) (drop l.i (rows_in l.orders l.book)) ≡ before (is_row_of (slots_in l.last l.book) l.slot) (rows_in l.orders l.book)
