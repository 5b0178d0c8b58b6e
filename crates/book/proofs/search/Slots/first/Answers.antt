use mathlib.Core.Path.{subst}
use mathlib.Core.Bool.{true, false}
use mathlib.Core.List.{List}
use borrow.Author.Count.{below_more}
use native.Mathlib.Omega.{arith}
use Prim.Native.Nat.{ℕ}
use Rattle.std.specs.Fn.{FnReturnsAt}
use Rattle.std.proofs.lemmas.Fn.{says_at}
use Rattle.fill.specs.Slot.{slot_width}
use Rattle.book.specs.Memory.{cell_at}
use Rattle.book.proofs.search.Slots.first.Goals as goal

pub loop-i-preserved : goal.loop-i-preserved
loop-i-preserved g c =
    let a = c.args in
    let h = c.loop-i in
    let here = subst (λ (s : List ℕ). FnReturnsAt g.F.Fn a.passes s false) c.at.ensures (says_at g.F.Fn c.passes.ensures c.if-passes.false) in
    below_more (λ k. FnReturnsAt g.F.Fn a.passes (cell_at slot_width k a.self.now.all.now) false) h.i h.invariant here

pub returns-then-passes : goal.returns-then-passes
returns-then-passes g c =
    let a = c.args in
    let h = c.loop-i in
    let here = subst (λ (s : List ℕ). FnReturnsAt g.F.Fn a.passes s true) c.at.ensures (says_at g.F.Fn c.passes.ensures c.if-passes.true) in
    record { found = (omega arith, here, h.invariant) }

pub returns : goal.returns
returns g c = record { found = λ k l. c.loop-i.invariant k (omega arith) }
