-- `note::put_numbers` meets its contract: three writes that adjoin.
use mathlib.Core.Path.{ap, ◌∙◌}
use mathlib.Core.List.{List}
use Prim.Native.Nat.{ℕ}
use native.Mathlib.Omega.{arith}
use lib.ListN.{length-set}
use Rattle.octet.specs.Places.{high}
use Rattle.octet.specs.Splice.{splice}
use Rattle.note.proofs.Writing.{numbers-writes}
use Rattle.note.proofs.put_numbers.Goals as goal

pub shape_of-note : goal.shape_of-note
shape_of-note c =
    let a = c.args in
    c.put_four-2.auto.dst ∙ c.put_four.auto.dst ∙ length-set a.note.now 0 a.kind

pub returns : goal.returns
returns c =
    let a = c.args in
    c.put_four-2.ensures.1
    ∙ ap (λ (d : List ℕ). splice d 5 (high 4 a.o)) c.put_four.ensures.1
    ∙ numbers-writes a.note.now a.kind a.e a.o (omega arith)
