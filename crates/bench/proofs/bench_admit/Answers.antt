use mathlib.Core.Path.{sym, ap, ◌∙◌}
use Rattle.book.specs.Memory.{slots_in, rows_in}
use Rattle.book.specs.Admitting.{admit_of}
use Rattle.book.specs.declared.Load.{Load}
use Rattle.bench.specs.Timed.{admitted_number}
use Rattle.bench.proofs.bench_admit.Goals as goal

pub returns-in-Clash : goal.returns-in-Clash
returns-in-Clash c =
    let a = c.args in
    let b = a.book.now in
    ap admitted_number (sym c.in-Clash.is ∙ c.admit.ensures ∙ ap (λ (l : Load). admit_of (slots_in a.last b) (rows_in l.orders b) l a.slot.now) c.load_of.ensures)

pub returns-in-Already : goal.returns-in-Already
returns-in-Already c =
    let a = c.args in
    let b = a.book.now in
    ap admitted_number (sym c.in-Already.is ∙ c.admit.ensures ∙ ap (λ (l : Load). admit_of (slots_in a.last b) (rows_in l.orders b) l a.slot.now) c.load_of.ensures)

pub returns-in-Full : goal.returns-in-Full
returns-in-Full c =
    let a = c.args in
    let b = a.book.now in
    ap admitted_number (sym c.in-Full.is ∙ c.admit.ensures ∙ ap (λ (l : Load). admit_of (slots_in a.last b) (rows_in l.orders b) l a.slot.now) c.load_of.ensures)

pub returns-in-New : goal.returns-in-New
returns-in-New c =
    let a = c.args in
    let b = a.book.now in
    ap admitted_number (sym c.in-New.is ∙ c.admit.ensures ∙ ap (λ (l : Load). admit_of (slots_in a.last b) (rows_in l.orders b) l a.slot.now) c.load_of.ensures)
