use mathlib.Core.Path.{subst}
use mathlib.Core.Bool.{true, false}
use mathlib.Core.List.{List}
use native.Mathlib.Omega.{arith}
use Prim.Native.Nat.{ℕ, ◌-◌}
use Rattle.std.specs.Fn.{FnReturnsAt}
use Rattle.std.proofs.lemmas.Fn.{says_at}
use Rattle.fill.specs.Slot.{slot_width}
use Rattle.book.specs.Memory.{cell_at}
use Rattle.book.proofs.Found.{from_more}
use Rattle.book.proofs.search.Slots.last.Goals as goal

pub loop-i-preserved : goal.loop-i-preserved
loop-i-preserved g c =
    let a = c.args in
    let h = c.loop-i in
    let here = subst (λ (s : List ℕ). FnReturnsAt g.F.Fn a.passes s false) c.at.ensures (says_at g.F.Fn c.passes.ensures c.if-passes.false) in
    from_more (λ k. FnReturnsAt g.F.Fn a.passes (cell_at slot_width k a.self.now.all.now) false) a.self.now.count (h.i - 1) h.i (omega arith) here h.invariant

pub returns-then-passes : goal.returns-then-passes
returns-then-passes g c =
    let a = c.args in
    let h = c.loop-i in
    let here = subst (λ (s : List ℕ). FnReturnsAt g.F.Fn a.passes s true) c.at.ensures (says_at g.F.Fn c.passes.ensures c.if-passes.true) in
    record { found = (omega arith, here, λ k b l. h.invariant k (omega arith) l) }

pub returns : goal.returns
returns g c = record { found = λ k l. c.loop-i.invariant k (omega arith) l }
