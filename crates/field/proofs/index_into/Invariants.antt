use mathlib.Core.Path.{◌≡◌}
use Rattle.field.specs.Pieces.{pieces_of, scan_of, and_then}
use Rattle.field.specs.Stands.{located, rest_at}
use Rattle.field.proofs.Cuts.{scan_in}
use Rattle.field.proofs.IndexLaws.{filled_from, nothing}
use Rattle.field.proofs.index_into.Given as goal

abbrev pub invariant-loop-piece : goal.invariant-loop-piece
invariant-loop-piece l =
    (filled_from nothing (located 0 (pieces_of l.body)) ≡ filled_from l.index (rest_at l.piece-iterator.body.now l.piece-iterator.at))
    × (scan_of (pieces_of l.body) ≡ and_then l.scan (scan_in (rest_at l.piece-iterator.body.now l.piece-iterator.at)))
