-- `totals::print` meets its contract: the day that is found is printed, and of a file that keeps none the line that says so.
use mathlib.Core.Path.{sym, ap, ap₂, ◌∙◌}
use Prim.Native.Nat.{ℕ, ◌<◌}
use mathlib.Core.List.{List}
use native.Mathlib.Omega.{arith}
use lib.ListN.{length}
use Rattle.octet.specs.Splice.{splice, fits_at}
use Rattle.octet.proofs.Cases.{cond-true}
use Rattle.octet.proofs.Lists.{splice-nil, splice-length, fits-true}
use Rattle.restart.specs.Restart.{restart}
use Rattle.listing.specs.Listing.{said_of, too_long, book_listed}
use Rattle.listing.proofs.Pages.{found, unfound, book-long}
use Rattle.totals.specs.Totals.{totals_in}
use Rattle.totals.proofs.Lines.{stands-as, totals-long, totals-is, again-is, unfound-for}
use Rattle.totals.proofs.print.Goals as goal

pub returns-then-notes-gt-PAGE : goal.returns-then-notes-gt-PAGE
returns-then-notes-gt-PAGE c =
    let a = c.args in
    let l = a.notes.now in
    let page = a.page.now in
    let book = a.book.now in
    let h : 65536 < length l = omega arith in
    let e = totals-long book l h in
    let room = c.requires in
    let p = c.put_front.ensures in
    let fits = fits-true page 0 too_long (omega arith) in
    let k = p.0 ∙ cond-true (fits_at page 0 too_long) (length too_long) 0 fits in
    ((p.1 ∙ ap (splice page 0) (sym e), k ∙ ap length (sym e)), omega arith, book-long book l h)

pub print_totals-requires : goal.print_totals-requires
print_totals-requires c =
    let e = c.in-Ok.ensures in
    omega (arith, ap length e.1, splice-length c.args.page.now 0 (said_of c.args.notes.now))

pub returns-in-Ok : goal.returns-in-Ok
returns-in-Ok c =
    let l = c.args.notes.now in
    let page = c.args.page.now in
    let book = c.args.book.now in
    let e = c.in-Ok.ensures in
    let f = found l _ _ _ e.0 e.3 in
    let w = c.print_totals.ensures in
    let i = ap₂ totals_in c.marks_from.ensures e.2 ∙ again-is (restart l) _ _ (book_listed book l) f.given ∙ sym (totals-is book l f.short) in
    let stays = e.1 ∙ ap (splice page 0) (sym f.unsaid) ∙ splice-nil page 0 in
    (stands-as page i (w.0.0 ∙ ap (λ (p : List ℕ). splice p 0 (totals_in c.marks_from.result c.day_of.new.book)) stays, w.0.1), w.1, e.2)

pub returns-in-Err : goal.returns-in-Err
returns-in-Err c =
    let l = c.args.notes.now in
    let page = c.args.page.now in
    let book = c.args.book.now in
    let e = c.in-Err.ensures in
    let u = unfound l _ _ e.0 in
    let said = said_of l in
    let i = unfound-for l _ _ book e.0 in
    let fits = fits-true page 0 said (omega (arith, u.short)) in
    let k = u.len-is ∙ cond-true (fits_at page 0 said) (length said) 0 fits in
    ((e.1 ∙ ap (splice page 0) i, k ∙ ap length i), omega (arith, u.short, k), e.2)
