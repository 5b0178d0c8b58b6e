use Rattle.octet.proofs.Cases.{and_right}
use Rattle.book.proofs.Keyed.{entry-new, entry-already, entry-clash, entry-room, entry-booking}
use Rattle.book.proofs.Placing.{admit-clash, admit-already, admit-full, admit-new}
use Rattle.book.specs.Entries.{entry_room}
use Rattle.book.specs.Memory.{most_slots, slots_here, region_of, slots_in, rows_in}
use Rattle.book.specs.Seeing.{found_at}
use Rattle.book.specs.declared.Admitted.TheVariants as admitted
use lib.Dec.{ltb}
use mathlib.Core.Option.{some}
use mathlib.Core.Path.{sym, ap, ◌∙◌}
use Rattle.book.proofs.entries.admit_entry.Goals as goal

pub with_entry-requires : goal.with_entry-requires
with_entry-requires c =
    let a = c.args in
    and_right (ltb a.last most_slots) (entry_room a.load.entries) (sym c.has_room.ensures ∙ c.if-has_room.true)

pub returns-in-None : goal.returns-in-None
returns-in-None c =
    let a = c.args in
    let e = a.slot.now in
    let ss = slots_in a.last a.book.now in
    let rows = rows_in a.load.orders a.book.now in
    let new = entry-new e c.requires ss rows (sym c.look_for.ensures ∙ ap (found_at (region_of slots_here a.book.now)) c.in-None.is) in
    let room = sym (entry-room e c.requires a.last a.book.now rows a.load) ∙ sym c.has_room.ensures ∙ c.if-has_room.true in
    ap admitted.New (entry-booking e c.requires ss rows a.load c.with_entry.result c.with_entry.ensures) ∙ sym (admit-new ss rows a.load e new room)

pub returns-in-None-2 : goal.returns-in-None-2
returns-in-None-2 c =
    let a = c.args in
    let e = a.slot.now in
    let ss = slots_in a.last a.book.now in
    let rows = rows_in a.load.orders a.book.now in
    let new = entry-new e c.requires ss rows (sym c.look_for.ensures ∙ ap (found_at (region_of slots_here a.book.now)) c.in-None.is) in
    let room = sym (entry-room e c.requires a.last a.book.now rows a.load) ∙ sym c.has_room.ensures ∙ c.if-has_room.false in
    sym (admit-full ss rows a.load e new room)

pub returns-in-Some : goal.returns-in-Some
returns-in-Some c =
    let a = c.args in
    let e = a.slot.now in
    let ss = slots_in a.last a.book.now in
    let rows = rows_in a.load.orders a.book.now in
    let twin = sym c.look_for.ensures ∙ ap (found_at (region_of slots_here a.book.now)) c.in-Some.is ∙ ap some (sym c.slot_at.ensures) in
    sym (admit-already ss rows a.load e (entry-already e c.requires ss rows c.slot_at.result.now twin (sym c.same.ensures ∙ c.if-same.true)))

pub returns-in-Some-2 : goal.returns-in-Some-2
returns-in-Some-2 c =
    let a = c.args in
    let e = a.slot.now in
    let ss = slots_in a.last a.book.now in
    let rows = rows_in a.load.orders a.book.now in
    let twin = sym c.look_for.ensures ∙ ap (found_at (region_of slots_here a.book.now)) c.in-Some.is ∙ ap some (sym c.slot_at.ensures) in
    ap admitted.Clash c.of.ensures ∙ sym (admit-clash ss rows a.load e (entry-clash e c.requires ss rows c.slot_at.result.now twin (sym c.same.ensures ∙ c.if-same.false)))
