use Rattle.book.proofs.Written.{entered-fill, entered-other, entered-none}
use Rattle.book.specs.Memory.{most_slots}
use Rattle.fill.specs.Slot.{slot_width}
use Rattle.octet.proofs.Cases.{and_left}
use borrow.Author.Tests.{ltb-true}
use lib.Dec.{ltb, eqb}
use lib.ListN.{length}
use mathlib.Core.Path.{sym, ◌∙◌}
use Rattle.book.proofs.Regions.{appended-out}
use Rattle.book.proofs.enter.Goals as goal
use Rattle.book.proofs.enter.Goals.{else-append-via-then-append+else-is_fill, else-append-via-else-append}

pub more_in_row-requires : goal.more_in_row-requires
more_in_row-requires c =
    let a = c.args in
    let fits = sym c.append.ensures.0 ∙ c.if-append.true in
    ltb-true a.count most_slots (and_left (ltb a.count most_slots) (eqb (length a.slot.now) slot_width) fits)

pub returns-then-is_fill : goal.returns-then-is_fill
returns-then-is_fill c =
    let a = c.args in
    let fits = sym c.append.ensures.0 ∙ c.if-append.true in
    let fill = sym c.is_fill.ensures ∙ c.if-is_fill.true in
    entered-fill a.book.now a.count a.orders a.row a.slot.now fits fill c.append.ensures.1 c.more_in_row.ensures

pub returns-else-append : goal.returns-else-append
returns-else-append c =
    let a = c.args in
    elim c.else-append.branch [
      | else-append-via-then-append+else-is_fill w ↦
          entered-other a.book.now a.count a.orders a.row a.slot.now (sym c.append.ensures.0 ∙ w.if-append.true) (sym w.is_fill.ensures ∙ w.if-is_fill.false) c.append.ensures.1
      | else-append-via-else-append w ↦ (let fits = sym c.append.ensures.0 ∙ w.if-append.false in
          c.append.ensures.1 ∙ appended-out a.book.now a.count a.slot.now fits ∙ entered-none a.book.now a.count a.orders a.row a.slot.now fits)
    ]
