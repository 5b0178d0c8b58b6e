-- `note::put_books` meets its contract: the kind that a slot is written in books.
use mathlib.Core.Path.{ap, ◌∙◌, subst}
use Prim.Native.Nat.{ℕ}
use Rattle.note.specs.Kinds.{note_kind}
use Rattle.note.specs.Notes.{booked_bytes, note_bytes, Puts}
use Rattle.note.proofs.Kinding.{kind-books}
use Rattle.note.proofs.put_books.Goals as goal

pub put_as-requires : goal.put_as-requires
put_as-requires c =
    let s = c.args.slot.now in
    ap (λ (byte : ℕ). (note_kind byte).class) c.kind_for.ensures ∙ kind-books s

pub returns : goal.returns
unfolding note_bytes
returns c =
    let a = c.args in
    let put = c.put_as in
    subst (λ (byte : ℕ). Puts a.note.now (booked_bytes byte a.e a.o a.slot.now) put.result put.new.note) c.kind_for.ensures put.ensures
