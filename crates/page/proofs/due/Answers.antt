-- `page::due` meets its contract: none where few rows are lent, or one for each order.
use mathlib.Core.Path.{sym, ◌∙◌}
use native.Mathlib.Omega.{arith}
use Rattle.page.proofs.Showing.{told-shown, told-refused}
use Rattle.page.proofs.due.Goals as goal

pub returns-in-Ok : goal.returns-in-Ok
returns-in-Ok c =
    let a = c.args in
    let t = told-shown a.marks a.lent _ (sym c.in-Ok.is ∙ c.told.ensures) in
    (t.1, omega arith)

pub returns-in-Err : goal.returns-in-Err
returns-in-Err c =
    let a = c.args in
    (sym (told-refused a.marks a.lent _ (sym c.in-Err.is ∙ c.told.ensures)), omega arith)
