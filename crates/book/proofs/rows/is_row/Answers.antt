use Prim.Native.Nat.{◌-◌}
use Rattle.book.proofs.Finds.{order_told}
use Rattle.book.proofs.Written.{head-none, head-past, head-slot}
use Rattle.book.specs.Seeing.{is_order}
use Rattle.fill.specs.Slot.{is_fill}
use Rattle.octet.specs.Bytes.{same}
use Rattle.octet.proofs.Cases.{and-no-right}
use mathlib.Core.Bool.{Bool, true, false, ◌&&◌}
use mathlib.Core.Path.{◌≡◌, refl, sym, ap, ◌∙◌}
use native.Mathlib.Omega.{arith}
use Rattle.octet.proofs.Places.{word-differs}
use Rattle.std.proofs.lemmas.Bool.{eqb-false}
use Rattle.book.proofs.rows.is_row.Goals as goal

pub returns-then-n-eq0 : goal.returns-then-n-eq0
returns-then-n-eq0 c =
    let a = c.args in
    sym (ap (is_order a.order.now.id.now) (head-none a.last a.book.now a.row.now (sym c.first_in-n.ensures ∙ c.if-n-eq0.true)))

pub returns-then-last-n : goal.returns-then-last-n
returns-then-last-n c =
    let a = c.args in
    let n = c.first_in-n.ensures in
    sym (ap (is_order a.order.now.id.now) (head-past a.last a.book.now a.row.now (omega arith)))

-- at a glance
pub returns-then-not-may_be : goal.returns-then-not-may_be
returns-then-not-may_be c =
    let a = c.args in
    let n = c.first_in-n.ensures in
    let i = c.first_in-n.result - 1 in
    let order = a.order.now in
    let first = c.slot_at-first.result.now in
    let head = c.slot_at-first.ensures ∙ sym (head-slot a.last a.book.now a.row.now i (omega arith) (omega arith)) in
    let apart = eqb-false _ _ (sym c.may_be.ensures ∙ c.if-not-may_be.true) in
    let other = ap (same order.id.now) (sym c.order_of-id.ensures) ∙ word-differs order.at order.id.now _ (λ e. apart (sym e ∙ sym order.told)) in
    sym (and-no-right (is_fill first) false refl) ∙ order_told order.id.now first refl other ∙ ap (is_order order.id.now) head

and_true : (a : Bool) → a && true ≡ a
and_true true = refl
and_true false = refl

pub returns-then-same_id : goal.returns-then-same_id
returns-then-same_id c =
    let a = c.args in
    let n = c.first_in-n.ensures in
    let i = c.first_in-n.result - 1 in
    let id = a.order.now.id.now in
    let first = c.slot_at-first.result.now in
    let head = c.slot_at-first.ensures ∙ sym (head-slot a.last a.book.now a.row.now i (omega arith) (omega arith)) in
    let ids = sym (c.same_id.ensures ∙ ap (same id) c.order_of-id.ensures) ∙ c.if-same_id.true in
    sym (and_true c.is_fill.result) ∙ order_told id first (sym c.is_fill.ensures) ids ∙ ap (is_order id) head

pub returns-else-same_id : goal.returns-else-same_id
returns-else-same_id c =
    let a = c.args in
    let n = c.first_in-n.ensures in
    let i = c.first_in-n.result - 1 in
    let id = a.order.now.id.now in
    let first = c.slot_at-first.result.now in
    let head = c.slot_at-first.ensures ∙ sym (head-slot a.last a.book.now a.row.now i (omega arith) (omega arith)) in
    let ids = sym (c.same_id.ensures ∙ ap (same id) c.order_of-id.ensures) ∙ c.if-same_id.false in
    c.if-same_id.false ∙ sym (and-no-right (is_fill first) false refl) ∙ order_told id first refl ids ∙ ap (is_order id) head
