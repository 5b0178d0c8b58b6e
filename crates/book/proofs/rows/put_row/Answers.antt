use Rattle.book.proofs.Regions.{put-out, row_written}
use mathlib.Core.Path.{sym}
use native.Mathlib.Omega.{arith}
use Rattle.book.proofs.rows.put_row.Goals as goal

pub returns-then-i-lt-ROWS : goal.returns-then-i-lt-ROWS
returns-then-i-lt-ROWS c =
    let a = c.args in
    let m = a.book.now in
    let at = c.row_place-at.ensures in
    row_written m a.i a.first a.booked a.waits _ _ _ _ (omega arith) (omega arith) at c.put_four.ensures.1 c.put_four-then-i-lt-ROWS.ensures.1 c.put_four-then-i-lt-ROWS-2.ensures.1

pub returns-else-i-lt-ROWS : goal.returns-else-i-lt-ROWS
returns-else-i-lt-ROWS c = let a = c.args in sym (put-out a.book.now a.i _ (omega arith))
