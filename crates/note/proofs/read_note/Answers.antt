-- `note::read_note` meets its contract: the kind's size says whether the note is whole, its class what it says.
use mathlib.Core.Path.{◌≡◌, sym, ap, ◌∙◌}
use mathlib.Core.Bool.{false}
use Prim.Native.Nat.{ℕ, zero, suc, ◌<◌}
use lib.Dec.{eqb}
use borrow.Author.Tests.{eqb-true}
use native.Mathlib.Omega.{arith}
use Rattle.octet.proofs.Cases.{true-not-false}
use Rattle.note.specs.Notes.{first_in}
use Rattle.note.proofs.Telling.{read_none, first_part, first-whole}
use Rattle.note.proofs.read_note.Goals as goal

some-bytes : (n : ℕ) → eqb n 0 ≡ false → 0 < n
some-bytes zero e = true-not-false e
some-bytes (suc n) e = omega arith

pub returns-then-is_empty : goal.returns-then-is_empty
returns-then-is_empty c =
    let none = eqb-true _ _ (sym c.is_empty.ensures ∙ c.if-is_empty.true) in
    c.no_whole.ensures ∙ sym (ap first_in (read_none c.args.s.now (omega arith)))

pub returns-then-s-kind : goal.returns-then-s-kind
returns-then-s-kind c = c.no_whole-then-s-kind.ensures ∙ first_part c.args.s.now c.note_kind-kind.result c.note_kind-kind.ensures (some-bytes _ (sym c.is_empty.ensures ∙ c.if-is_empty.false)) (omega arith)

pub returns : goal.returns
returns c = first-whole c.args.s.now c.note_kind-kind.result c.note_kind-kind.ensures (some-bytes _ (sym c.is_empty.ensures ∙ c.if-is_empty.false)) (omega arith) c.say.ensures
