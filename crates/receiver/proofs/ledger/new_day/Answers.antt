-- `receiver::ledger::new_day` meets its contract.
use mathlib.Core.Path.{refl, sym, ap, ◌∙◌}
use native.Mathlib.Omega.{arith}
use lib.Dec.{ltb}
use lib.ListN.{length}
use borrow.Author.Tests.{le-ltb, lt-ltb}
use Rattle.receiver.specs.Steps.{lent_line}
use Rattle.receiver.proofs.Queueing.{day-short, day-on, day-waiting, day-dawned}
use Rattle.receiver.proofs.ledger.new_day.Goals as goal

pub returns-then-note-note_least : goal.returns-then-note-note_least
returns-then-note-note_least c =
    let a = c.args in
    let note-least = c.note_least in
    let if1 = c.if-note-note_least in
    λ reply line. day-short a.setup a.st a.book.now (lent_line reply (length a.note.now) line) a.note.now refl refl
    (sym (lt-ltb _ _ if1.true) ∙ ap (ltb (length a.note.now)) note-least.ensures) c.plain.ensures

pub returns-then-is_on : goal.returns-then-is_on
returns-then-is_on c =
    let a = c.args in
    let note-least = c.note_least in
    let if1 = c.if-note-note_least in
    let is-on = c.is_on in
    let if2 = c.if-is_on in
    λ reply line. day-on a.setup a.st a.book.now (lent_line reply (length a.note.now) line) a.note.now refl refl
    (sym (le-ltb _ _ if1.false) ∙ ap (ltb (length a.note.now)) note-least.ensures) (sym if2.true ∙ is-on.ensures) c.plain-then-is_on.ensures

pub dawn-requires : goal.dawn-requires
dawn-requires c =
    let note-least = c.note_least in
    let if1 = c.if-note-note_least in
    omega (arith, if1.false, note-least.ensures)

pub returns-in-Err : goal.returns-in-Err
returns-in-Err c =
    let a = c.args in
    let note-least = c.note_least in
    let if1 = c.if-note-note_least in
    let is-on = c.is_on in
    let if2 = c.if-is_on in
    let new-day = c.new_day in
    λ reply line. day-waiting a.setup a.st a.book.now (lent_line reply (length a.note.now) line) a.note.now new-day.ensures.1 refl
    (sym (le-ltb _ _ if1.false) ∙ ap (ltb (length a.note.now)) note-least.ensures) (sym if2.false ∙ is-on.ensures) (sym c.in-Err.is ∙ new-day.ensures.0) c.plain-in-Err.ensures

pub returns-in-Ok : goal.returns-in-Ok
returns-in-Ok c =
    let a = c.args in
    let note-least = c.note_least in
    let if1 = c.if-note-note_least in
    let is-on = c.is_on in
    let if2 = c.if-is_on in
    let new-day = c.new_day in
    let dawn = c.dawn in
    λ reply line. day-dawned a.setup a.st a.book.now (lent_line reply (length a.note.now) line) a.note.now new-day.ensures.1
    (sym (le-ltb _ _ if1.false) ∙ ap (ltb (length a.note.now)) note-least.ensures) (sym if2.false ∙ is-on.ensures) (sym c.in-Ok.is ∙ new-day.ensures.0) dawn.ensures
