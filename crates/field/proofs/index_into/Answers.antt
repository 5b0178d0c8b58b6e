-- The pass: what is noted so far and the pieces that are left make the whole index.
use mathlib.Core.Path.{◌≡◌, ap, sym, ◌∙◌}
use mathlib.Core.List.{List}
use Rattle.field.specs.Pieces.{pieces_of, and_then}
use Rattle.field.specs.Stands.{Piece, rest_at}
use Rattle.field.specs.declared.Walk.{Walk}
use Rattle.field.proofs.Cuts.{scan_in, scan-at, and-then-sound, and-then-assoc}
use Rattle.field.proofs.IndexLaws.{filled_from, nothing, pass_on, filled}
use Rattle.field.proofs.index_into.Goals as goal
use Rattle.field.proofs.index_into.Goals.{in-Err, in_default}

pub loop-piece-init : goal.loop-piece-init
loop-piece-init c =
    let e = c.into_iter-piece-iterator.ensures.into_iter_gives in (
      ap (λ (w : Walk). filled_from nothing (rest_at w.body.now w.at)) (sym e),
      scan-at 0 (pieces_of c.args.body.now) ∙ ap (λ (w : Walk). scan_in (rest_at w.body.now w.at)) (sym e),
    )

pub loop-piece-preserved : goal.loop-piece-preserved
loop-piece-preserved c =
    let scan = c.loop-piece.scan in
    let cut = c.in-Some.ensures.steps in
    -- a sound piece leaves the scan as it is, and so it is with the piece's fault on every way
    let with_piece : c.match-piece_fault.scan ≡ and_then scan c.piece_fault.result =
    elim c.match-piece_fault.branch [
      | in-Err w ↦ w.scan-is ∙ w.and-scan.ensures ∙ ap (and_then scan) (sym w.in-Err.is)
      | in_default w ↦ w.scan-is ∙ sym (and-then-sound scan) ∙ ap (and_then scan) (sym w.in_default.is)
    ] in (
      c.loop-piece.invariant.0 ∙ pass_on _ _ _ _ _ cut c.note.ensures,
      c.loop-piece.invariant.1 ∙ rw (cut, ← c.piece_fault.ensures, ← and-then-assoc _ _ _, ← with_piece),
    )

pub returns : goal.returns
returns c =
    let e = c.in-None.ensures.steps.0 in (
      sym (c.loop-piece.invariant.1 ∙ ap (λ (gs : List Piece). and_then c.loop-piece.scan (scan_in gs)) e ∙ and-then-sound c.loop-piece.scan),
      sym (c.loop-piece.invariant.0 ∙ ap (filled_from c.loop-piece.index) e) ∙ filled c.args.body.now,
    )
