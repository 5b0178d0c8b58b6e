-- `parts::put_filled` meets its contract: where there is no room nothing changes, and else it is what is there, and then zeros.
use mathlib.Core.Path.{◌≡◌, sym, ap, ◌∙◌}
use mathlib.Core.List.{List}
use Prim.Native.Nat.{ℕ, ◌+◌, ◌-◌, ◌<◌}
use native.Mathlib.Omega.{arith}
use lib.ListN.{length, replicate}
use Rattle.octet.specs.Splice.{splice}
use Rattle.octet.proofs.Lists.{splice-out}
use Rattle.parts.specs.Relaid.{filled}
use Rattle.parts.proofs.Relaying.{filled-length, put-filled}
use Rattle.parts.proofs.put_filled.Goals as goal
use Rattle.parts.proofs.put_filled.Goals.{then-dst-at-via-then-dst-at, then-dst-at-via-else-dst-at+then-dst-at-2}

no_room : (d : List ℕ) (at w : ℕ) (x : List ℕ) → length d < at + w → d ≡ splice d at (filled w x)
no_room d at w x h = sym (splice-out d at (filled w x) (omega (arith, filled-length w x)))

pub returns-then-dst-at : goal.returns-then-dst-at
returns-then-dst-at c =
    let a = c.args in
    elim c.then-dst-at.branch [
      | then-dst-at-via-then-dst-at w ↦ no_room a.dst.now a.at a.width a.x.now (omega arith)
      | then-dst-at-via-else-dst-at+then-dst-at-2 w ↦ no_room a.dst.now a.at a.width a.x.now (omega arith)
    ]

pub returns : goal.returns
returns c =
    let a = c.args in
    let cut = c.part-cut.result.now in
    c.put_zeros.ensures.1
    ∙ ap (λ (d : List _). splice d (a.at + length cut) (replicate (a.width - length cut) 0)) c.copy_into.ensures.1
    ∙ put-filled a.dst.now a.at a.width a.x.now cut c.part-cut.ensures (omega arith)
