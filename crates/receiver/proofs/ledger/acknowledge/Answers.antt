use Rattle.receiver.proofs.Queueing.{ack_told, ack-told, ack-book, ack-note}
use Rattle.receiver.specs.Steps.{lent_line}
use lib.ListN.{length}
use mathlib.Core.Path.{refl, sym, ap, ◌∙◌}
use Rattle.receiver.proofs.ledger.acknowledge.Goals as goal

pub returns-in-Ok-Some : goal.returns-in-Ok-Some
returns-in-Ok-Some c =
    let a = c.args in
    let acknowledge = c.acknowledge in
    λ reply line. record {
      told = ap (ack_told a.st) (rw c.in-Ok-Some.field-0-is at (sym c.in-Ok-Some.is ∙ acknowledge.ensures.0)) ∙ ack-told a.st a.book.now a.n a.setup
          (lent_line reply (length a.note.now) line);
      booked = acknowledge.ensures.1 ∙ ack-book a.st a.book.now a.n a.setup (lent_line reply (length a.note.now) line);
      noted = acknowledge.ensures.2 ∙ ack-note a.st a.book.now a.n a.setup (lent_line reply (length a.note.now) line) a.note.now refl;
    }

pub returns-in-Ok-None : goal.returns-in-Ok-None
returns-in-Ok-None c =
    let a = c.args in
    let acknowledge = c.acknowledge in
    λ reply line. record {
      told = c.plain.ensures ∙ ap (ack_told a.st) (rw c.in-Ok-None.field-0-is at (sym c.in-Ok-None.is ∙ acknowledge.ensures.0)) ∙ ack-told a.st
          a.book.now a.n a.setup (lent_line reply (length a.note.now) line);
      booked = acknowledge.ensures.1 ∙ ack-book a.st a.book.now a.n a.setup (lent_line reply (length a.note.now) line);
      noted = acknowledge.ensures.2 ∙ ack-note a.st a.book.now a.n a.setup (lent_line reply (length a.note.now) line) a.note.now refl;
    }

pub returns-in-Err : goal.returns-in-Err
returns-in-Err c =
    let a = c.args in
    let acknowledge = c.acknowledge in
    λ reply line. record {
      told = c.plain-in-Err.ensures ∙ ap (ack_told a.st) (sym c.in-Err.is ∙ acknowledge.ensures.0) ∙ ack-told a.st a.book.now a.n
          a.setup (lent_line reply (length a.note.now) line);
      booked = acknowledge.ensures.1 ∙ ack-book a.st a.book.now a.n a.setup (lent_line reply (length a.note.now) line);
      noted = acknowledge.ensures.2 ∙ ack-note a.st a.book.now a.n a.setup (lent_line reply (length a.note.now) line) a.note.now refl;
    }
