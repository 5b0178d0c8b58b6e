-- `totals::put_rows` meets its contract: the lines of the rows so far stand there.
use mathlib.Core.Path.{◌≡◌, ap, ◌∙◌}
use native.Mathlib.Omega.{arith}
use lib.ListN.{length}
use Rattle.octet.proofs.Lists.{splice-length}
use Rattle.totals.proofs.Lines.{rows_start, rows-turn}
use Rattle.totals.proofs.put_rows.Goals as goal

pub loop-i-init : goal.loop-i-init
loop-i-init c =
    let a = c.args in
    (rows_start a.marks a.book.now a.page.now, omega arith)

pub loop-i-preserved : goal.loop-i-preserved
loop-i-preserved c =
    let a = c.args in
    let h = c.loop-i in
    let v = h.invariant in
    let few = v.1 in
    let t = c.row_text.ensures in
    let p = c.place-end.ensures in
    let room = c.requires in
    let g = rows-turn a.marks a.book.now a.page.now h.page _ _ _ h.end _ h.i v.0 room.1 (omega (arith, room.0)) c.row_of.ensures t.text t.most p.dst_after p.value in
    let m = g.1 in
    (g.0, omega arith)

pub shape_of-page : goal.shape_of-page
shape_of-page c =
    let a = c.args in
    let h = c.loop-i in
    ap length h.invariant.0.0 ∙ splice-length a.page.now 0 _

pub returns : goal.returns
returns c =
    let a = c.args in
    let h = c.loop-i in
    let few = h.invariant.1 in
    let e : h.i ≡ a.n = omega arith in
    (rw (← e) h.invariant.0, omega arith)
