-- `listing::put_line` meets its contract: the line is written apart and copied.
use mathlib.Core.Path.{ap, ◌∙◌}
use lib.ListN.{replicate}
use Rattle.octet.specs.Splice.{splice}
use Rattle.fill.specs.Booked.{line_of}
use Rattle.listing.proofs.Pages.{written_back, line-length}
use Rattle.listing.proofs.put_line.Goals as goal

pub returns : goal.returns
returns c =
    let a = c.args in
    let w = c.write_line-len.ensures in
    let l = line_of a.n a.slot.now in
    let len = line-length (replicate 128 0) l _ w.line_bound w.value in
    (c.copy_into.ensures.1 ∙ ap (splice a.page.now a.at) (written_back (replicate 128 0) l _ _ w.line_bound w.line_after len), len)
