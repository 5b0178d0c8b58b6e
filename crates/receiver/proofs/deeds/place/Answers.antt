use mathlib.Core.Path.{sym, ◌∙◌}
use native.Mathlib.Omega.{arith}
use Rattle.receiver.proofs.Deciding.{few, placed-clash, placed-already, placed-full, placed-new}
use Rattle.receiver.proofs.deeds.place.Goals as goal

pub overflow_add-marks : goal.overflow_add-marks
overflow_add-marks c =
    let a = c.args in
    omega
    (arith, few a.st a.book.now a.n a.slot.now (sym c.in-New.is ∙ c.admit.ensures))

pub returns-in-Clash : goal.returns-in-Clash
returns-in-Clash c =
    let a = c.args in
    placed-clash a.st a.book.now a.n a.slot.now _
    (sym c.in-Clash.is ∙ c.admit.ensures)
    c.rejected.ensures

pub returns-in-Already : goal.returns-in-Already
returns-in-Already c =
    let a = c.args in
    placed-already a.st a.book.now a.n a.slot.now
    (sym c.in-Already.is ∙ c.admit.ensures)
    c.passed.ensures

pub returns-in-Full : goal.returns-in-Full
returns-in-Full c =
    let a = c.args in
    placed-full a.st a.book.now a.n a.slot.now
    (sym c.in-Full.is ∙ c.admit.ensures)

pub returns-in-New : goal.returns-in-New
returns-in-New c =
    let a = c.args in
    placed-new a.st a.book.now a.n a.slot.now (omega arith) (omega arith) (omega arith)
    (sym c.in-New.is ∙ c.admit.ensures)
    c.with_slot-next.ensures c.day_with-day.ensures c.numbered-outcome.ensures
