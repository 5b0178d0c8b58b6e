-- `page::page` meets its contract: `told` makes the answer, and each turn puts one row of the page.
use mathlib.Core.Path.{◌≡◌, sym, ap, ap₂, ◌∙◌}
use mathlib.Core.List.{List, ◌++◌}
use Prim.Native.Nat.{ℕ, ◌≤◌, ◌<◌}
use native.Mathlib.Omega.{arith}
use lib.ListN.{length, take, drop, set, length-take}
use Rattle.page.specs.Page.{page_of}
use Rattle.page.specs.declared.OrderRow.{OrderRow}
use Rattle.page.proofs.Upto.{upto, upto-none, upto-more, upto-front}
use Rattle.page.proofs.page.Goals as goal

pub loop-i-init : goal.loop-i-init
loop-i-init c = sym (upto-none c.args.marks c.args.book.now _)

pub loop-i-preserved : goal.loop-i-preserved
loop-i-preserved c =
    let a = c.args in
    let b = a.book.now in
    let i = c.loop-i.i in
    let xs = take c.due-n.result a.rows.now in
    let more : i < length xs = c.loop-i-test.true in
    ap₂ (λ (l : List OrderRow) (r : OrderRow). set l i r) c.loop-i.invariant c.row_of.ensures ∙ upto-more a.marks b i xs more

pub returns : goal.returns
returns c =
    let m = c.args.marks in
    let b = c.args.book.now in
    let ys = c.args.rows.now in
    let n = c.due-n.result in
    let some : n ≤ length ys = c.due-n.ensures.1 in
    let lx : length (take n ys) ≡ n = simp length-take (omega arith) in
    let far : length (take n ys) ≤ c.loop-i.i = c.loop-i-test.false in
    let near : c.loop-i.i ≤ length (take n ys) = c.loop-i.auto.i-end in
    let done : c.loop-i.i ≡ n = omega arith in (
      c.told-answer.ensures,
      ap (λ (l : List OrderRow). l ++ drop n ys) (c.loop-i.invariant ∙ ap (λ (k : ℕ). upto m b k (take n ys)) done)
          ∙ upto-front m b n ys some
          ∙ ap (λ (k : ℕ). page_of m b k ++ drop k ys) c.due-n.ensures.0,
    )
