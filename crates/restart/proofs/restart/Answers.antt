-- `restart::restart` meets its contract: the used slots of the replay are copied, and nothing where it was refused.
use mathlib.Core.Path.{ap, ◌∙◌}
use Rattle.std.proofs.lemmas.Result.{err_from_is_err_and}
use Rattle.std.specs.Prelude.{Err}
use lib.ListN.{length}
use Rattle.restart.specs.Restart.{restart}
use Rattle.restart.proofs.Going.{restart-given}
use Rattle.restart.proofs.Stepping.{book-is, book-stays, slots-there, slots-none}
use Rattle.restart.proofs.restart.Goals as goal

pub returns-in_err-again : goal.returns-in_err-again
returns-in_err-again c =
    let a = c.args in
    let o = restart a.notes.now in
    let p = err_from_is_err_and c.from_residual.result c.from_residual.ensures.1 in
    let e = c.in_err-again.ensures.0 in
    (p.1 ∙ ap Err p.2 ∙ e, book-stays o a.book.now _ e, slots-none o _ _ e)

pub returns : goal.returns
returns c =
    let a = c.args in
    let r = c.replay in
    let l = a.notes.now in
    let book = a.book.now in
    let e = c.in_ok-again.ensures in
    let after = c.put_day.ensures.book_after ∙ book-is (restart l) book r.new.mem _ _ (length l) e.0 (restart-given l) e.1 in
    (e.0, after, slots-there (restart l) book _ (length l) (restart-given l) after c.put_day.ensures.book_len)
