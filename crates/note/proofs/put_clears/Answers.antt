-- `note::put_clears` meets its contract.
use mathlib.Core.Path.{sym}
use native.Mathlib.Omega.{arith}
use lib.ListN.{set}
use Rattle.note.specs.Notes.{Clears, note_bytes}
use Rattle.note.proofs.Reading.{clears-length}
use Rattle.note.proofs.Writing.{put-short, put_whole, clears-writes}
use Rattle.note.proofs.put_clears.Goals as goal

pub returns-then-note-lt-CLEARS : goal.returns-then-note-lt-CLEARS
returns-then-note-lt-CLEARS c = put-short c.args.note.now (note_bytes Clears) (omega (arith, clears-length))

pub returns : goal.returns
returns c =
    let d = c.args.note.now in
    put_whole d (note_bytes Clears) (set d 0 68) 1 (sym clears-length) (omega (arith, clears-length)) (clears-writes d)
