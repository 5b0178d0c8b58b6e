use native.Mathlib.Omega.{arith}
use mathlib.Core.Path.{ap, ◌∙◌}
use mathlib.Core.List.{List}
use Prim.Native.Nat.{ℕ}
use lib.ListN.{replicate}
use Rattle.octet.specs.Bytes.{bytes_of}
use Rattle.octet.specs.Splice.{splice}
use Rattle.fill.proofs.Made.{time-seventeen, time-other}
use Rattle.fill.proofs.time_field.Goals as goal

pub returns-then-t-eq17 : goal.returns-then-t-eq17
returns-then-t-eq17 c =
    let a = c.args in
    c.copy_into-then-t-eq17.ensures.1
    ∙ ap (λ (d : List ℕ). splice d 17 (bytes_of ".000")) c.copy_into.ensures.1
    ∙ ap (λ (x : List ℕ). splice (splice (replicate 21 0) 0 x) 17 (bytes_of ".000")) c.part.ensures
    ∙ time-seventeen a.t.now (omega arith)

pub returns-else-t-eq17 : goal.returns-else-t-eq17
returns-else-t-eq17 c =
    let a = c.args in
    c.copy_into.ensures.1
    ∙ ap (λ (x : List ℕ). splice (replicate 21 0) 0 x) c.part.ensures
    ∙ time-other a.t.now c.if-t-eq17.false
