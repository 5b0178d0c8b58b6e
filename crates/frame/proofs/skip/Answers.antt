-- `frame::skip` meets its contract.
use mathlib.Core.Path.{◌≡◌, ◌∙◌, refl}
use mathlib.Core.Bool.{true}
use Prim.Native.Nat.{◌+◌}
use native.Mathlib.Nat.{add-zero, add_assoc}
use native.Mathlib.Omega.{arith}
use lib.ListN.{drop}
use borrow.Author.Tests.{leb-true, leb-false}
use Rattle.frame.specs.Finding.{skip_of}
use Rattle.octet.specs.Bytes.{agree}
use Rattle.octet.proofs.Lists.{agree-next, agree_differ, agree-out-left, agree-out-right}
use Rattle.frame.proofs.Agree.{to_agree-here, to_agree-next}
use borrow.Author.Rules.{rules}
use Rattle.frame.proofs.skip.Goals as goal
use Rattle.frame.proofs.skip.Goals.{then-o-i-via-then-o-i, then-o-i-via-else-o-i+then-s-p}

pub search-init : goal.search-init
unfolding skip_of
search-init c = (search rules, refl)

pub compare-init : goal.compare-init
compare-init c = (search rules, rw add-zero)

pub bounds-s-p : goal.bounds-s-p
bounds-s-p c = omega (arith, leb-false)

pub compare-preserved : goal.compare-preserved
compare-preserved c =
    let p = c.search.p in (
      search rules,
      c.compare.invariant.1
          ∙ agree-next _ _ c.compare.i (p + c.compare.i) (omega arith) (omega (arith, leb-false)) c.if-o-i-2.false
          ∙ rw (add_assoc p c.compare.i 1),
    )

pub overflow_add-p-in-search : goal.overflow_add-p-in-search
overflow_add-p-in-search c = omega (arith, leb-false)

pub search-smaller : goal.search-smaller
search-smaller c = omega (arith, leb-false)

pub search-preserved : goal.search-preserved
search-preserved c =
    let p = c.search.p in
    let a = c.args in
    let no = c.compare.invariant.1 ∙ agree_differ _ _ c.compare.i (p + c.compare.i) (omega arith) (omega (arith, leb-false)) c.if-o-i-2.true in
    let next = to_agree-next a.o.now a.s.now p (omega (arith, leb-false)) no in
    (omega (arith, leb-false), omega (arith, next))

pub returns : goal.returns
returns c =
    let p = c.search.p in
    let i = c.compare.i in
    let a = c.args in
    let yes : agree a.o.now (drop p a.s.now) ≡ true =
    elim c.then-o-i.branch [
      | then-o-i-via-then-o-i w ↦ c.compare.invariant.1 ∙ agree-out-left _ _ i (p + i) (omega arith)
      | then-o-i-via-else-o-i+then-s-p w ↦ c.compare.invariant.1 ∙ agree-out-right _ _ i (p + i) (omega (arith, leb-true))
    ] in
    omega (arith, to_agree-here a.o.now (drop p a.s.now) yes)
