-- `listing::day_of` meets its contract: too long, the day, or damaged.
use mathlib.Core.Path.{sym, ap, ◌∙◌}
use Prim.Native.Nat.{◌≤◌, ◌<◌}
use native.Mathlib.Omega.{arith}
use lib.ListN.{length}
use Rattle.std.specs.Prelude.{Err}
use Rattle.octet.specs.Splice.{splice}
use Rattle.octet.proofs.Lists.{splice-nil}
use Rattle.text.specs.Writing.{held}
use Rattle.text.proofs.Puts.{held-short}
use Rattle.note.specs.Notes.{written}
use Rattle.restart.specs.Restart.{restart}
use Rattle.restart.proofs.Going.{restart-given}
use Rattle.listing.specs.Listing.{damaged, said_of}
use Rattle.listing.proofs.Pages.{damaged-most, damaged-at, day-again, day-damaged, day-long, day-is, book-long, book-is}
use Rattle.listing.proofs.day_of.Goals as goal

pub returns-then-notes-gt-PAGE : goal.returns-then-notes-gt-PAGE
returns-then-notes-gt-PAGE c =
    let a = c.args in
    let l = a.notes.now in
    let page = a.page.now in
    let h : 65536 < length l = omega arith in
    let d = day-long l (written page (said_of l)) h in
    let p = c.put_front.ensures in
    (ap Err (p.0 ∙ ap (written page) d.1) ∙ d.0, p.1 ∙ ap (splice page 0) d.1, book-long a.book.now l h, tt)

pub returns-in-Ok : goal.returns-in-Ok
returns-in-Ok c =
    let a = c.args in
    let l = a.notes.now in
    let page = a.page.now in
    let r = c.restart.ensures in
    let h : length l ≤ 65536 = omega arith in
    let d = day-is l (written page (said_of l)) h in
    let g = day-again (restart l) c.in-Ok.again (written page (said_of l)) (sym c.in-Ok.is ∙ r.0) in
    (g.0 ∙ d.0, sym (splice-nil page 0) ∙ ap (splice page 0) (g.1 ∙ d.1), r.1 ∙ book-is a.book.now l h, r.2)

pub returns-in-Err : goal.returns-in-Err
returns-in-Err c =
    let a = c.args in
    let l = a.notes.now in
    let page = a.page.now in
    let at = c.in-Err.at in
    let r = c.restart.ensures in
    let h : length l ≤ 65536 = omega arith in
    let e = sym c.in-Err.is ∙ r.0 in
    let d = day-is l (written page (said_of l)) h in
    let g = day-damaged (restart l) at (written page (said_of l)) e in
    let b = damaged-at (restart l) at (length l) e (restart-given l) in
    let short = damaged-most at (omega arith) in
    let t = c.held.ensures ∙ ap held c.damaged_text.ensures ∙ held-short (damaged at) (omega arith) ∙ g.1 ∙ d.1 in
    let p = c.put_front-in-Err.ensures in
    (ap Err (p.0 ∙ ap (written page) t) ∙ g.0 ∙ d.0, p.1 ∙ ap (splice page 0) t, r.1 ∙ book-is a.book.now l h, tt)
