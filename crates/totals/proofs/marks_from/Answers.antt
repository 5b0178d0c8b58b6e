-- `totals::marks_from` meets its contract.
use Rattle.totals.proofs.marks_from.Goals as goal

pub returns : goal.returns
returns c = rw (c.again.ensures, c.load_in.ensures)
