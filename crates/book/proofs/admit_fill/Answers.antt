use Rattle.book.proofs.Placing.{placed-already, placed-clash, admit-clash, admit-already}
use Rattle.book.specs.Memory.{slots_here, region_of, slots_in, rows_in}
use Rattle.book.specs.Seeing.{found_at}
use Rattle.book.specs.declared.Admitted.TheVariants as admitted
use mathlib.Core.Option.{some}
use mathlib.Core.Path.{sym, ap, ◌∙◌}
use Rattle.book.proofs.admit_fill.Goals as goal

pub admit_new-requires : goal.admit_new-requires
admit_new-requires c =
    let seen = c.look-seen.ensures in
    (c.requires, sym seen.0 ∙ ap (found_at (region_of slots_here c.args.book.now)) c.in-None.is, seen.1)

pub returns-in-Some : goal.returns-in-Some
returns-in-Some c =
    let a = c.args in
    let rows = rows_in a.load.orders a.book.now in
    let ss = slots_in a.last a.book.now in
    let twin = sym c.look-seen.ensures.0 ∙ ap (found_at (region_of slots_here a.book.now)) c.in-Some.is ∙ ap some (sym c.slot_at.ensures) in
    sym (admit-already ss rows a.load a.slot.now (placed-already ss rows a.slot.now c.requires c.slot_at.result.now twin (sym c.same_contents.ensures ∙ c.if-same_contents.true)))

pub returns-in-Some-2 : goal.returns-in-Some-2
returns-in-Some-2 c =
    let a = c.args in
    let rows = rows_in a.load.orders a.book.now in
    let ss = slots_in a.last a.book.now in
    let twin = sym c.look-seen.ensures.0 ∙ ap (found_at (region_of slots_here a.book.now)) c.in-Some.is ∙ ap some (sym c.slot_at.ensures) in
    ap admitted.Clash c.of.ensures
    ∙ sym (admit-clash ss rows a.load a.slot.now (placed-clash ss rows a.slot.now c.requires c.slot_at.result.now twin (sym c.same_contents.ensures ∙ c.if-same_contents.false)))
