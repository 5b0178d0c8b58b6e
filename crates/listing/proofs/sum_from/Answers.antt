-- `listing::sum_from` meets its contract: what is summed and what is to come are all of it.
use native.Mathlib.Omega.{arith}
use Rattle.listing.proofs.Pages.{sum_step, sum_done}
use Rattle.listing.proofs.sum_from.Goals as goal

pub loop-i-init : goal.loop-i-init
loop-i-init c = (omega arith, omega arith)

pub overflow_add-sum : goal.overflow_add-sum
overflow_add-sum c =
    let a = c.args in
    let h = c.loop-i in
    let v = h.invariant in
    let r = c.shares_in-sum.ensures.1 in
    let w = v.1 in
    omega arith

pub loop-i-preserved : goal.loop-i-preserved
loop-i-preserved c =
    let a = c.args in
    let h = c.loop-i in
    let v = h.invariant in
    let r = c.shares_in-sum.ensures.0 in
    let u = c.shares_in-sum.ensures.1 in
    let w = v.1 in
    let z = v.0 in
    let y = sum_step a.last h.i a.book.now c.slot_at.result.now (omega arith) c.slot_at.ensures in
    (omega arith, omega arith)

pub returns : goal.returns
returns c =
    let a = c.args in
    let h = c.loop-i in
    let v = h.invariant in
    let w = v.1 in
    let z = v.0 in
    let y = sum_done a.last h.i a.book.now (omega arith) in
    (omega arith, omega arith)
