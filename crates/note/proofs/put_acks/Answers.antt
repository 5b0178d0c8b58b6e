-- `note::put_acks` meets its contract.
use mathlib.Core.Path.{sym, ◌∙◌}
use native.Mathlib.Omega.{arith}
use lib.ListN.{length-set}
use Rattle.note.specs.Notes.{Acks, note_bytes}
use Rattle.note.proofs.Reading.{acks-length}
use Rattle.note.proofs.Writing.{put-short, put_whole, acks-writes}
use Rattle.note.proofs.put_acks.Goals as goal

pub returns-then-note-lt-ACKS : goal.returns-then-note-lt-ACKS
returns-then-note-lt-ACKS c =
    let a = c.args in
    put-short a.note.now (note_bytes (Acks a.n)) (omega (arith, acks-length a.n))

pub shape_of-note : goal.shape_of-note
shape_of-note c = c.put_four.auto.dst ∙ length-set c.args.note.now 0 75

pub returns : goal.returns
returns c =
    let a = c.args in
    let l = acks-length a.n in
    put_whole a.note.now (note_bytes (Acks a.n)) c.put_four.new.dst 5 (sym l) (omega arith)
    (c.put_four.ensures.1 ∙ acks-writes a.note.now a.n (omega arith))
