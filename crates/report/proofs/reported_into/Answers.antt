-- What the report says, and the lent slot by that.
use mathlib.Core.Path.{◌≡◌, ◌∙◌}
use Rattle.std.proofs.lemmas.Result.{err_from_is_err_and}
use borrow.Author.Tests.{eq-eqb, ne_eqb}
use Rattle.std.specs.Prelude.{Ok, Err}
use Rattle.field.specs.Look.{seen_by}
use Rattle.report.specs.Report.{Said, reported_of}
use Rattle.report.specs.declared.Reported.TheVariants.{Aside, Fill}
use Rattle.report.proofs.Rules.{rules_told, slot-after}
use Rattle.report.proofs.reported_into.Goals as goal

pub returns-in_err-rule_fault : goal.returns-in_err-rule_fault
unfolding reported_of
returns-in_err-rule_fault c =
    let look = seen_by c.args.look in
    let ruled = rules_told look c.sums_at-sums.ensures c.value.ensures c.value-2.ensures c.rule_fault.ensures in
    let p = err_from_is_err_and c.from_residual.result c.from_residual.ensures.1 in
    let said : ◌≡◌ {A = Said} (Err p.0) (reported_of look) = rw (p.2, ruled, c.in_err-rule_fault.was) in
    (p.1 ∙ said, slot-after _ _ said)

pub returns-then-count-ne0 : goal.returns-then-count-ne0
unfolding reported_of
returns-then-count-ne0 c =
    let look = seen_by c.args.look in
    let ruled = rules_told look c.sums_at-sums.ensures c.value.ensures c.value-2.ensures c.rule_fault.ensures in
    let said : ◌≡◌ {A = Said} (Ok Aside) (reported_of look) = rw (ruled, c.in_ok-rule_fault.was, ← c.count.ensures, ne_eqb _ 0 c.if-count-ne0.true) in
    (said, slot-after _ _ said)

pub returns : goal.returns
unfolding reported_of
returns c =
    let look = seen_by c.args.look in
    let ruled = rules_told look c.sums_at-sums.ensures c.value.ensures c.value-2.ensures c.rule_fault.ensures in
    let said : ◌≡◌ {A = Said} (Ok Fill) (reported_of look) = rw (ruled, c.in_ok-rule_fault.was, ← c.count.ensures, eq-eqb _ 0 c.if-count-ne0.false) in
    (said, c.slot_by.ensures ∙ slot-after _ _ said)
