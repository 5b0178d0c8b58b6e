-- `totals::write_totals` meets its contract: what was printed apart is copied where it fits.
use mathlib.Core.Path.{sym, ap, ◌∙◌}
use native.Mathlib.Omega.{arith}
use lib.ListN.{length, replicate, length-replicate}
use Prim.Native.Nat.{ℕ}
use Rattle.octet.specs.Splice.{splice}
use Rattle.note.specs.Notes.{written}
use Rattle.listing.proofs.Pages.{written_back}
use Rattle.totals.proofs.write_totals.Goals as goal

pub slice_bounds-page-end : goal.slice_bounds-page-end
slice_bounds-page-end c = omega (arith, c.print-n.ensures.1)

pub slice_bounds-put_front-end : goal.slice_bounds-put_front-end
slice_bounds-put_front-end c =
    let p = c.print-n.ensures in
    p.0.1 ∙ sym (ap length (written_back (replicate 5391 0) _ _ _ (omega (arith, p.0.1, p.1, length-replicate {A = ℕ} 5391 0)) p.0.0 p.0.1))

pub returns : goal.returns
returns c =
    let out = c.args.out.now in
    let p = c.print-n.ensures in
    let k = c.put_front.ensures in
    let x = written_back (replicate 5391 0) _ _ _ (omega (arith, p.0.1, p.1, length-replicate {A = ℕ} 5391 0)) p.0.0 p.0.1 in
    (k.0 ∙ ap (written out) x, k.1 ∙ ap (splice out 0) x, p.2)
