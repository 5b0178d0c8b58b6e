use Rattle.answer.specs.Numbers.{counted}
use Rattle.book.specs.Rows.{day_with}
use Rattle.fill.specs.Slot.{is_fill, shares_of}
use Rattle.octet.proofs.Cases.{cond-true, cond-false}
use mathlib.Core.Path.{sym, ap, ◌∙◌}
use Rattle.book.proofs.rows.day_with.Goals as goal

pub returns-then-is_fill : goal.returns-then-is_fill
unfolding day_with
returns-then-is_fill c =
    let a = c.args in
    let s = a.slot.now in
    let fill = sym c.is_fill.ensures ∙ c.if-is_fill.true in
    c.count_on.ensures ∙ ap (counted a.day) c.shares_of.ensures ∙ sym (cond-true (is_fill s) (counted a.day (shares_of s)) a.day fill)

pub returns-else-is_fill : goal.returns-else-is_fill
unfolding day_with
returns-else-is_fill c =
    let a = c.args in
    let s = a.slot.now in
    sym (cond-false (is_fill s) (counted a.day (shares_of s)) a.day (sym c.is_fill.ensures ∙ c.if-is_fill.false))
