-- `listing::print` meets its contract: the day that is found is printed, and of a file that keeps none the line that says so.
use mathlib.Core.Path.{sym, ap, ◌∙◌}
use native.Mathlib.Omega.{arith}
use lib.ListN.{length}
use mathlib.Core.List.{List}
use Prim.Native.Nat.{ℕ}
use Rattle.octet.specs.Splice.{splice, fits_at}
use Rattle.octet.proofs.Cases.{cond-true}
use Rattle.octet.proofs.Lists.{splice-nil, splice-length, fits-true}
use Rattle.listing.specs.Listing.{said_of, waiting_in}
use Rattle.listing.proofs.Pages.{found, unfound, listing-is, printed-fits}
use Rattle.listing.proofs.print.Goals as goal

pub print_waiting-requires : goal.print_waiting-requires
print_waiting-requires c =
    let l = c.args.notes.now in
    let e = c.in-Ok.ensures in
    let f = found l _ _ _ e.0 e.3 in
    let p = f.paged in
    let lp = ap length e.1 ∙ splice-length c.args.page.now 0 (said_of l) in
    let lw = ap length p.page in
    (p.few, p.mark, omega (arith, printed-fits l f.short))

pub returns-in-Ok : goal.returns-in-Ok
returns-in-Ok c =
    let l = c.args.notes.now in
    let page = c.args.page.now in
    let e = c.in-Ok.ensures in
    let f = found l _ _ _ e.0 e.3 in
    let w = c.print_waiting.ensures in
    let i = f.paged.page ∙ sym (listing-is l f.short) in
    let stays = e.1 ∙ ap (splice page 0) (sym f.unsaid) ∙ splice-nil page 0 in
    (w.0 ∙ ap (λ (p : List ℕ). splice p 0 (waiting_in c.in-Ok.m.acked c.in-Ok.m.last c.day_of.new.book)) stays ∙ ap (splice page 0) i, w.1 ∙ ap length i, e.2)

pub returns-in-Err : goal.returns-in-Err
returns-in-Err c =
    let l = c.args.notes.now in
    let page = c.args.page.now in
    let e = c.in-Err.ensures in
    let u = unfound l _ _ e.0 in
    let said = said_of l in
    let fits = fits-true page 0 said (omega (arith, u.short)) in
    (e.1 ∙ ap (splice page 0) u.said, u.len-is ∙ cond-true (fits_at page 0 said) (length said) 0 fits ∙ ap length u.said, e.2)
