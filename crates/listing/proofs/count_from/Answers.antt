-- `listing::count_from` meets its contract: the count so far and the slots to come lead to all of it.
use mathlib.Core.Path.{◌≡◌, sym, ap, ◌∙◌}
use mathlib.Core.Bool.{cond}
use Prim.Native.Nat.{ℕ, ◌+◌, ◌≤◌}
use native.Mathlib.Omega.{arith}
use Rattle.octet.proofs.Cases.{of-cond, cond-true, cond-false}
use Rattle.fill.specs.Slot.{is_fill}
use Rattle.listing.proofs.Pages.{count-step, count-done}
use Rattle.listing.proofs.count_from.Goals as goal
use Rattle.listing.proofs.count_from.Goals.{then-is_fill, else-is_fill}

pub loop-i-init : goal.loop-i-init
loop-i-init c = (omega arith, omega arith)

pub overflow_add-fills : goal.overflow_add-fills
overflow_add-fills c =
    let few = c.loop-i.invariant.1 in
    let pre = c.requires in
    omega arith

pub loop-i-preserved : goal.loop-i-preserved
loop-i-preserved c =
    let a = c.args in
    let h = c.loop-i in
    let s = c.slot_at.result.now in
    let few = h.invariant.1 in
    let is = sym c.is_fill.ensures in
    let more : c.if-is_fill.fills ≡ h.fills + cond (is_fill s) 1 0 =
    elim c.if-is_fill.branch [
      | then-is_fill w ↦ w.fills-is ∙ ap (λ (n : ℕ). h.fills + n) (sym (cond-true (is_fill s) 1 0 (is ∙ w.if-is_fill.true)))
      | else-is_fill w ↦ w.fills-is ∙ (let none = cond-false {A = ℕ} (is_fill s) 1 0 (is ∙ w.if-is_fill.false) in omega arith)
    ] in
    let y = count-step a.last h.i a.book.now s (omega arith) c.slot_at.ensures in
    let one : cond (is_fill s) 1 0 ≤ 1 = of-cond (λ (n : ℕ). n ≤ 1) (is_fill s) (λ e. omega arith) (λ e. omega arith) in
    let all = h.invariant.0 in
    (omega arith, omega arith)

pub returns : goal.returns
returns c =
    let a = c.args in
    let h = c.loop-i in
    let y = count-done a.last h.i a.book.now (omega arith) in
    let all = h.invariant.0 in
    omega arith
