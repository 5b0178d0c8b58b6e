-- `note::say` meets its contract, class by class.
use mathlib.Core.Path.{sym, ap, ◌∙◌}
use Rattle.note.specs.declared.Class.{Class}
use Rattle.note.specs.declared.Numbers.{Numbers}
use Rattle.note.specs.declared.Read.TheVariants as read
use Rattle.note.specs.Notes.{told_as}
use Rattle.note.proofs.say.Goals as goal

pub returns-in-Raises : goal.returns-in-Raises
returns-in-Raises c =
    ap (λ (n : Numbers). read.Raises n.e n.o) c.numbers_in-n.ensures
    ∙ sym (ap (λ (x : Class). told_as x c.args.s.now) c.in-Raises.is)

pub returns-in-Books : goal.returns-in-Books
returns-in-Books c =
    ap (λ (n : Numbers). read.Books n.e n.o) c.numbers_in-n.ensures
    ∙ sym (ap (λ (x : Class). told_as x c.args.s.now) c.in-Books.is)

pub returns-in-Acks : goal.returns-in-Acks
returns-in-Acks c = ap read.Acks c.four_at.ensures ∙ sym (ap (λ (x : Class). told_as x c.args.s.now) c.in-Acks.is)
