-- `totals::row_text` meets its contract.
use borrow.Author.Rules.{rules}
use native.Mathlib.Omega.{arith}
use Rattle.totals.proofs.Lines.{row-most}
use Rattle.totals.proofs.row_text.Goals as goal

pub returns-clause-most : goal.returns-clause-most
returns-clause-most c = row-most c.args.row (search rules) (omega arith)
