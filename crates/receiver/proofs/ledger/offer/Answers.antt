use mathlib.Core.Path.{refl, sym, ap, ◌∙◌}
use lib.ListN.{length}
use Rattle.receiver.specs.Steps.{lent_line}
use Rattle.receiver.proofs.Queueing.{offer_told, offer-told, offer-line}
use Rattle.receiver.proofs.ledger.offer.Goals as goal

pub returns-in-Ok-Some : goal.returns-in-Ok-Some
returns-in-Ok-Some c =
    let a = c.args in
    let offer = c.offer in
    λ reply note. (
      ap (offer_told a.st) (rw c.in-Ok-Some.field-0-is at (sym c.in-Ok-Some.is ∙ offer.ensures.0)) ∙ offer-told a.st a.book.now a.setup
          (lent_line reply note (length a.line.now)),
      offer.ensures.1 ∙ offer-line a.st a.book.now a.setup (lent_line reply note (length a.line.now)) a.line.now refl,
    )

pub returns-in-Ok-None : goal.returns-in-Ok-None
returns-in-Ok-None c =
    let a = c.args in
    let offer = c.offer in
    λ reply note. (
      c.plain.ensures ∙ ap (offer_told a.st) (rw c.in-Ok-None.field-0-is at (sym c.in-Ok-None.is ∙ offer.ensures.0)) ∙ offer-told a.st a.book.now
          a.setup (lent_line reply note (length a.line.now)),
      offer.ensures.1 ∙ offer-line a.st a.book.now a.setup (lent_line reply note (length a.line.now)) a.line.now refl,
    )

pub returns-in-Err : goal.returns-in-Err
returns-in-Err c =
    let a = c.args in
    let offer = c.offer in
    λ reply note. (
      c.plain-in-Err.ensures ∙ ap (offer_told a.st) (sym c.in-Err.is ∙ offer.ensures.0) ∙ offer-told a.st a.book.now a.setup
          (lent_line reply note (length a.line.now)),
      offer.ensures.1 ∙ offer-line a.st a.book.now a.setup (lent_line reply note (length a.line.now)) a.line.now refl,
    )
