use Prim.Native.Nat.{ℕ, ◌≤◌}
use Rattle.answer.specs.Numbers.{largest}
use Rattle.book.proofs.Placing.{placed-new, there-by, room_by, booking-by, step_by, admit-clash, admit-already, admit-full, admit-new}
use Rattle.book.proofs.Rowing.{first_found, booked-found}
use Rattle.book.specs.Admitting.{place}
use Rattle.book.specs.Memory.{slots_in, rows_in}
use Rattle.book.specs.Rows.{booked_in, head_of, first_for}
use Rattle.book.specs.Seeing.{some_slot}
use Rattle.book.specs.declared.Admitted.TheVariants as admitted
use lib.ListN.{get_or}
use mathlib.Core.List.{[]}
use mathlib.Core.Path.{◌≡◌, sym, ap, ◌∙◌}
use native.Mathlib.Omega.{arith}
use borrow.Author.Rules.{rules}
use Rattle.book.proofs.admit_new.Statement.{statement}
use Rattle.book.proofs.admit_new.Tie as tie

place_row-place-requires : tie.Need-place_row-place-requires
place_row-place-requires c κs = c.requires.2

-- what is found for its order
found : (c : tie.After-head_of-first)
    → (let a = c.args in
    some_slot c.head_of-first.result.now ≡ first_for (slots_in a.last a.book.now) (rows_in a.load.orders a.book.now) a.slot.now)
found c =
    let a = c.args in
    let ss = slots_in a.last a.book.now in
    let rows = rows_in a.load.orders a.book.now in
    ap some_slot (c.head_of-first.ensures ∙ ap (head_of ss) (c.row_in-row.ensures ∙ ap (λ (n : ℕ). get_or rows n []) c.place_row-place.ensures)) ∙ first_found ss rows a.slot.now

-- where it stands among the day's
placed : (c : tie.After-by_order)
    → (let a = c.args in
    place (slots_in a.last a.book.now) (rows_in a.load.orders a.book.now) a.slot.now ≡ c.by_order.result)
placed c =
    let a = c.args in
    placed-new (slots_in a.last a.book.now) (rows_in a.load.orders a.book.now) a.slot.now c.requires.0 c.head_of-first.result.now _
    c.requires.1 (found c.before) c.by_order.ensures

-- no room
returns-then-not-has_room : tie.Need-returns-then-not-has_room
returns-then-not-has_room c =
    let a = c.args in
    let f = a.slot.now in
    let ss = slots_in a.last a.book.now in
    let rows = rows_in a.load.orders a.book.now in
    let k = c.head_of-first.result.now in
    let known = there-by ss rows a.load f k (found c.before.before.before.before) in
    let room = sym (room_by a.last a.load k a.book.now rows f c.requires.0 known) ∙ sym c.has_room.ensures ∙ c.if-not-has_room.true in
    sym (admit-full ss rows a.load f (placed c.before.before.before ∙ c.in-New.is) room)

returns-in-Clash : tie.Need-returns-in-Clash
returns-in-Clash c =
    let a = c.args in
    sym (admit-clash (slots_in a.last a.book.now) (rows_in a.load.orders a.book.now) a.load a.slot.now (placed c.before ∙ c.in-Clash.is))

returns-in-Already : tie.Need-returns-in-Already
returns-in-Already c =
    let a = c.args in
    sym (admit-already (slots_in a.last a.book.now) (rows_in a.load.orders a.book.now) a.load a.slot.now (placed c.before ∙ c.in-Already.is))

-- new, with its booking
returns-else-not-has_room : tie.Need-returns-else-not-has_room
returns-else-not-has_room c =
    let a = c.args in
    let h = c.requires.0 in
    let f = a.slot.now in
    let ss = slots_in a.last a.book.now in
    let rows = rows_in a.load.orders a.book.now in
    let k = c.head_of-first.result.now in
    let ek = found c.before.before.before.before.before.before.before.before in
    let known = there-by ss rows a.load f k ek in
    let room = sym (room_by a.last a.load k a.book.now rows f h known) ∙ sym c.has_room.ensures ∙ c.if-not-has_room.false in
    let row = c.row_in-row.ensures ∙ ap (λ (n : ℕ). get_or rows n []) c.place_row-place.ensures in
    let step = step_by ss rows a.load f k ek _ _ (c.booked_in.ensures ∙ ap booked_in row ∙ booked-found ss rows f) c.in_step.ensures in
    let fits : a.load.entries ≤ largest = omega (arith, c.well_formed.1.1.0) in
    let booking = booking-by ss rows a.load f k ek _ _ _ _ h fits c.fills_with.ensures c.orders_with.ensures c.place_row-place.ensures step in
    ap admitted.New booking ∙ sym (admit-new ss rows a.load f (placed c.before.before.before.before.before.before.before ∙ c.in-New.is) room)

pub admit_new_spec : {M : Type 1} → statement M
admit_new_spec =
    tie.close
    (tie.spec
    (λ c. search rules)
    place_row-place-requires
    (λ c. search rules)
    (λ c κs. search rules)
    (λ c κs. search rules)
    (λ c κs. search rules)
    (λ c. search rules)
    (λ c. search rules)
    (λ c. search rules)
    (λ c κs. search rules)
    returns-then-not-has_room
    (λ c κs. search rules)
    (λ c κs. search rules)
    (λ c κs. search rules)
    (λ c κs. search rules)
    returns-in-Clash
    returns-in-Already
    returns-else-not-has_room)
