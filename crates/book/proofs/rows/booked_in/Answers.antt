-- `book::rows::booked_in` meets its contract: the second of the three numbers.
use Rattle.book.proofs.rows.booked_in.Goals as goal

pub returns : goal.returns
returns c = c.four_at.ensures
