-- `note::put_raises` meets its contract.
use mathlib.Core.Path.{sym, ap, ◌∙◌}
use native.Mathlib.Omega.{arith}
use Rattle.octet.specs.Splice.{splice}
use Rattle.note.specs.Notes.{Raises, note_bytes}
use Rattle.note.proofs.Reading.{raises-length}
use Rattle.note.proofs.Writing.{put-short, put_whole, raises-is}
use Rattle.note.proofs.put_raises.Goals as goal

pub returns-then-note-lt-RAISES : goal.returns-then-note-lt-RAISES
returns-then-note-lt-RAISES c =
    let a = c.args in
    put-short a.note.now (note_bytes (Raises a.e a.o)) (omega (arith, raises-length a.e a.o))

pub returns : goal.returns
returns c =
    let a = c.args in
    let l = raises-length a.e a.o in
    put_whole a.note.now (note_bytes (Raises a.e a.o)) c.put_numbers.new.note 9 (sym l) (omega arith)
    (c.put_numbers.ensures ∙ ap (splice a.note.now 0) (sym (raises-is a.e a.o)))
