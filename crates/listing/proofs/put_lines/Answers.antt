-- `listing::put_lines` meets its contract: the lines so far stand there, and the others are to come.
use mathlib.Core.Path.{refl, ap, ◌∙◌}
use native.Mathlib.Omega.{arith}
use lib.ListN.{length}
use Rattle.octet.proofs.Lists.{splice-length}
use Rattle.listing.proofs.Pages.{lined-start, lined-turn, lined-done}
use Rattle.listing.proofs.put_lines.Goals as goal

pub loop-i-init : goal.loop-i-init
loop-i-init c =
    let a = c.args in
    lined-start a.page.now a.book.now a.at a.from a.last

pub overflow_add-end : goal.overflow_add-end
overflow_add-end c =
    let a = c.args in
    let h = c.loop-i in
    let g = lined-turn a.page.now a.book.now h.page _ a.at a.from a.last h.end h.i _ _ _ c.requires.1 h.invariant (omega arith) refl c.slot_at.ensures c.put_line-end.ensures.0 c.put_line-end.ensures.1 in
    let f = g.1 in
    omega (arith, c.requires.1)

pub loop-i-preserved : goal.loop-i-preserved
loop-i-preserved c =
    let a = c.args in
    let h = c.loop-i in
    let g = lined-turn a.page.now a.book.now h.page _ a.at a.from a.last h.end h.i _ _ _ c.requires.1 h.invariant (omega arith) refl c.slot_at.ensures c.put_line-end.ensures.0 c.put_line-end.ensures.1 in
    g.0

pub shape_of-page : goal.shape_of-page
shape_of-page c =
    let a = c.args in
    let h = c.loop-i in
    ap length h.invariant.stands ∙ splice-length a.page.now a.at _

pub returns : goal.returns
returns c =
    let a = c.args in
    let h = c.loop-i in
    lined-done a.page.now a.book.now h.page a.at a.from a.last h.end h.i h.invariant (omega arith)
