-- `totals::print_totals` meets its contract: the rows and then the last line.
use mathlib.Core.Path.{sym, ap, ◌∙◌}
use native.Mathlib.Nat.{le_refl}
use native.Mathlib.Omega.{arith}
use lib.ListN.{length, length-append}
use Rattle.octet.specs.Splice.{splice}
use Rattle.octet.proofs.Lists.{splice-nil}
use Rattle.page.specs.Page.{page_of}
use Rattle.page.proofs.Showing.{shown-most}
use Rattle.totals.specs.Totals.{row_lines, day_line}
use Rattle.totals.proofs.Lines.{stands-as, stands-more, totals-by}
use Rattle.totals.proofs.print_totals.Goals as goal

pub put_rows-end-requires : goal.put_rows-end-requires
put_rows-end-requires c =
    let a = c.args in
    let room = c.requires in
    (shown-most a.marks 128 _ _ (le_refl 128) (sym c.in-Ok.is ∙ c.told.ensures), room)

pub returns-in_default : goal.returns-in_default
returns-in_default c =
    let a = c.args in
    let page = a.page.now in
    let e = totals-by a.marks a.book.now _ (sym c.in_default.is ∙ c.told.ensures) in
    ((sym (splice-nil page 0) ∙ ap (splice page 0) e, ap length e), omega arith)

pub returns : goal.returns
returns c =
    let a = c.args in
    let page = a.page.now in
    let n = c.in-Ok.shown.orders in
    let day = c.in-Ok.shown.day in
    let room = c.requires in
    let told = sym c.in-Ok.is ∙ c.told.ensures in
    let few = shown-most a.marks 128 _ _ (le_refl 128) told in
    let rows = c.put_rows-end.ensures in
    let most = rows.1 in
    let d = c.day_text.ensures in
    let short = d.most in
    let p = c.place.ensures in
    let lines = row_lines (page_of a.marks a.book.now n) in
    let g = stands-more page _ _ lines (day_line day) _ _ _ rows.0 d.text (omega arith) (omega arith) p.dst_after p.value in
    let end = rows.0.1 in
    let k = g.1 in
    (stands-as page (totals-by a.marks a.book.now _ told) g, omega (arith, length-append lines (day_line day)))
