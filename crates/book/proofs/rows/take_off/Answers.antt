use Rattle.book.proofs.Written.{taking-on, taking-done, alone-own}
use mathlib.Core.List.{[]}
use mathlib.Core.Path.{refl}
use native.Mathlib.Omega.{arith}
use Rattle.book.proofs.rows.take_off.Goals as goal

pub loop-i-init : goal.loop-i-init
loop-i-init c = let a = c.args in record { rows = refl; sum = refl; alone = alone-own a.book.now c.book_len.ensures.book_len a.last a.orders [] }

pub loop-i-preserved : goal.loop-i-preserved
loop-i-preserved c =
    let a = c.args in
    let h = c.loop-i in
    let end = c.min-i-end.ensures in
    let most = c.min.ensures in
    taking-on a.book.now h.book c.book_len.ensures.book_len a.last a.orders a.from a.to a.day h.left h.i _ _ (omega arith) (omega arith) h.invariant c.take_one-left.ensures

pub returns : goal.returns
returns c =
    let a = c.args in
    let h = c.loop-i in
    let end = c.min-i-end.ensures in
    let most = c.min.ensures in
    taking-done a.book.now h.book c.book_len.ensures.book_len a.last a.orders a.from a.to a.day h.left h.i (omega arith) h.invariant
