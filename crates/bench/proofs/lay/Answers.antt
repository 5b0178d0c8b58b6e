-- `bench::lay` meets its contract: each loop lays a third of the numbers.
use mathlib.Core.Path.{◌≡◌, refl, sym, ap, ◌∙◌}
use native.Mathlib.Nat.{zero-add}
use native.Mathlib.Omega.{arith}
use Rattle.bench.proofs.Laying.{laid, start, len, count, laid-none, laid-more, laid-size, laid-out}
use Rattle.bench.proofs.lay.Goals as goal

pub loop-i-preserved : goal.loop-i-preserved
loop-i-preserved c =
    laid-more start c.args.cells.now 0 c.args.columns.now c.loop-i.i _ (sym (zero-add c.loop-i.i)) c.loop-i.invariant (omega arith) (omega arith)

pub loop-j-init : goal.loop-j-init
loop-j-init c = laid-none len c.loop-i.cells 35 c.args.columns.now

pub loop-j-preserved : goal.loop-j-preserved
loop-j-preserved c =
    let x = c.args.columns.now in
    let size = laid-size start c.args.cells.now 0 x c.loop-i.i c.loop-i.invariant (omega arith) (omega arith) in
    laid-more len c.loop-i.cells 35 x c.loop-j.j _ refl c.loop-j.invariant (omega arith) (omega arith)

pub loop-k-init : goal.loop-k-init
loop-k-init c = laid-none count c.loop-j.cells 70 c.args.columns.now

pub loop-k-preserved : goal.loop-k-preserved
loop-k-preserved c =
    let x = c.args.columns.now in
    let first = laid-size start c.args.cells.now 0 x c.loop-i.i c.loop-i.invariant (omega arith) (omega arith) in
    let size = laid-size len c.loop-i.cells 35 x c.loop-j.j c.loop-j.invariant (omega arith) (omega arith) in
    laid-more count c.loop-j.cells 70 x c.loop-k.k _ refl c.loop-k.invariant (omega arith) (omega arith)

pub returns : goal.returns
returns c =
    let x = c.args.columns.now in
    let i : c.loop-i.i ≡ 35 = omega arith in
    let j : c.loop-j.j ≡ 35 = omega arith in
    let k : c.loop-k.k ≡ 35 = omega arith in
    laid-out c.args.cells.now x (omega arith) (omega arith)
    (c.loop-i.invariant ∙ ap (laid start c.args.cells.now 0 x) i)
    (c.loop-j.invariant ∙ ap (laid len c.loop-i.cells 35 x) j)
    (c.loop-k.invariant ∙ ap (laid count c.loop-j.cells 70 x) k)
