-- `octet::put_padded` meets its contract: the length byte, the text and the zeros are the field.
use borrow.Author.Rules.{rules}
use borrow.Author.Tests.{leb-false, leb-true}
use mathlib.Core.Path.{◌≡◌, sym, ap, ◌∙◌}
use mathlib.Core.List.{List}
use Prim.Native.Nat.{ℕ, ◌+◌, ◌-◌}
use native.Mathlib.Omega.{arith}
use lib.ListN.{length, set, replicate}
use Rattle.octet.specs.Splice.{splice}
use Rattle.octet.proofs.Padded.{unfit-width, fits_width_lem, put-unfit, put-no-room, put_whole}
use Rattle.octet.proofs.put_padded.Goals as goal
use Rattle.octet.proofs.put_padded.Goals.{then-width-t-via-then-width-t, then-width-t-via-else-width-t+then-not-has_room}

pub returns-then-width-t : goal.returns-then-width-t
returns-then-width-t c =
    let a = c.args in
    let d = a.dst.now in
    let t = a.t.now in
    elim c.then-width-t.branch [
      | then-width-t-via-then-width-t w ↦ put-unfit d a.at a.width t (unfit-width a.width t w.if-width-t.true)
      | then-width-t-via-else-width-t+then-not-has_room w ↦ put-no-room d a.at a.width t (fits_width_lem a.width t (omega arith) (omega arith))
          (leb-false (a.at + a.width) (length d) (sym w.has_room.ensures ∙ w.if-not-has_room.true))
    ]

pub returns : goal.returns
returns c =
    let a = c.args in
    let d = a.dst.now in
    let t = a.t.now in
    let len : c.in-Ok.len ≡ length t = search rules in
    let room = leb-true (a.at + a.width) (length d) (sym c.has_room.ensures ∙ c.if-not-has_room.false) in
    let w = put_whole d a.at a.width t (fits_width_lem a.width t (omega arith) (omega arith)) room in (
      w.0,
      c.put_zeros.ensures.1
          ∙ ap (λ (m : List ℕ). splice m (a.at + 1 + length t) (replicate (a.width - 1 - length t) 0)) c.copy_into.ensures.1
          ∙ ap (λ (n : ℕ). splice (splice (set d a.at n) (a.at + 1) t) (a.at + 1 + length t) (replicate (a.width - 1 - length t) 0)) len
          ∙ w.1,
    )
