use borrow.Author.Rules.{rules}
use Prim.Native.Nat.{ℕ}
use mathlib.Core.List.{List}
use mathlib.Core.Path.{◌≡◌, sym, ap, ap₂, subst, ◌∙◌}
use Rattle.std.specs.Prelude.{Some, None}
use Rattle.octet.specs.Bytes.{same}
use Rattle.octet.specs.Maybe.{find_last}
use Rattle.fill.specs.Slot.{slot_width, exec_of}
use Rattle.book.specs.Memory.{cells}
use Rattle.book.specs.Seeing.{found_at, is_exec}
use Rattle.book.proofs.Found.{last-told, either, by-ids, seen-none, seen-here, seen-front}
use Rattle.book.proofs.walk.Goals as goal

pub returns-in_default : goal.returns-in_default
returns-in_default c =
    let a = c.args in
    let m = a.slots.now.all.now in
    let n = a.slots.now.count in
    let x = c.new-exec.result.id.now in
    let y = c.new-order.result.id.now in
    seen-none a.slot.now m n
    (by-ids a.slot.now m n x y None (c.new-exec.ensures ∙ c.exec_of.ensures) (c.new-order.ensures ∙ c.order_of.ensures)
    (last-told (either x y) m n c.in_default.ensures (λ s b k. search rules)))

-- at the ExecID
pub returns-then-is : goal.returns-then-is
returns-then-is c =
    let a = c.args in
    let m = a.slots.now.all.now in
    let n = a.slots.now.count in
    let x = c.new-exec.result.id.now in
    let y = c.new-order.result.id.now in
    let ex = c.new-exec.ensures ∙ c.exec_of.ensures in
    seen-here a.slot.now m n c.in-Some.i
    (by-ids a.slot.now m n x y (Some c.in-Some.i) ex (c.new-order.ensures ∙ c.order_of.ensures)
    (last-told (either x y) m n c.in-Some.ensures (λ s b k. search rules)))
    (sym (c.is.ensures ∙ ap₂ same ex (c.exec_of-2.ensures ∙ ap exec_of c.at-s.ensures)) ∙ c.if-is.true)

-- at a fill of its order: the ExecID is among those before, or nowhere
pub returns : goal.returns
returns c =
    let a = c.args in
    let m = a.slots.now.all.now in
    let n = a.slots.now.count in
    let i = c.in-Some.i in
    let x = c.new-exec.result.id.now in
    let y = c.new-order.result.id.now in
    let r = c.find_exec.result in
    let ex = c.new-exec.ensures ∙ c.exec_of.ensures in
    let front = c.front.ensures in
    let before = subst (λ (l : List ℕ). found_at l r ≡ find_last (is_exec x) (cells slot_width c.front.result.count l)) front.0 c.find_exec.ensures in
    let found =
    subst (λ (k : ℕ). found_at m r ≡ find_last (is_exec x) (cells slot_width k m)) front.1 before
    ∙ ap (λ (u : List ℕ). find_last (is_exec u) (cells slot_width i m)) ex in
    seen-front a.slot.now m n i r
    (by-ids a.slot.now m n x y (Some i) ex (c.new-order.ensures ∙ c.order_of.ensures)
    (last-told (either x y) m n c.in-Some.ensures (λ s b k. search rules)))
    (sym (c.is.ensures ∙ ap₂ same ex (c.exec_of-2.ensures ∙ ap exec_of c.at-s.ensures)) ∙ c.if-is.false)
    found
