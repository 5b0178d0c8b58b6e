-- `note::slot_in_note` meets its contract: the first byte that its kind says, and the parts of its note laid out as a slot has them.
use mathlib.Core.Path.{◌≡◌, refl, sym, ap, ap₂, ◌∙◌}
use mathlib.Core.List.{List}
use Prim.Native.Nat.{ℕ}
use native.Mathlib.Omega.{arith}
use lib.ListN.{length, get_or, replicate, set}
use Rattle.octet.specs.Bytes.{sum_of}
use Rattle.octet.specs.Splice.{splice}
use Rattle.octet.proofs.Lists.{part-all}
use Rattle.parts.specs.Relaid.{relaid}
use Rattle.fill.specs.Slot.{slot_width}
use Rattle.fill.specs.Booked.{widths_for}
use Rattle.note.specs.declared.NoteKind.{NoteKind}
use Rattle.note.specs.Kinds.{note_kind}
use Rattle.note.proofs.Kinding.{kind-proper, slot-parts, slot-sum}
use Rattle.note.proofs.Telling.{slot-writes}
use Rattle.note.proofs.slot_in_note.Goals as goal

pub lay-requires : goal.lay-requires
lay-requires c =
    let s = c.args.s.now in
    let kind = c.note_kind-kind.result in
    let is : kind ≡ note_kind (get_or s 0 0) = c.note_kind-kind.ensures ∙ ap note_kind c.byte_at.ensures in
    let p = kind-proper (get_or s 0 0) in
    let to : c.slot_widths-to.result ≡ widths_for kind.mark = c.slot_widths-to.ensures in
    let kinds : widths_for kind.mark ≡ widths_for (note_kind (get_or s 0 0)).mark = ap (λ (x : NoteKind). widths_for x.mark) is in (
      (λ e. (
        ap (λ (x : NoteKind). x.widths) is ∙ p.own-widths (ap (λ (x : NoteKind). x.own) (sym is) ∙ e) ∙ sym (to ∙ kinds),
        ap sum_of to ∙ slot-sum kind.mark,
      )),
      ap (λ (x : NoteKind). length x.widths) is ∙ p.parts ∙ sym (ap length (to ∙ kinds)),
      omega (arith, ap length to, slot-parts kind.mark),
    )

pub returns : goal.returns
returns c =
    let s = c.args.s.now in
    let kind = c.note_kind-kind.result in
    let is : kind ≡ note_kind (get_or s 0 0) = c.note_kind-kind.ensures ∙ ap note_kind c.byte_at.ensures in
    c.lay.ensures
    ∙ ap₂ (λ (to x : List ℕ). splice (set (replicate slot_width 0) 0 kind.mark) 1 (relaid kind.widths to x))
    c.slot_widths-to.ensures (c.part.ensures ∙ part-all kind.front (length s) s (omega arith))
    ∙ slot-writes (replicate slot_width 0) s kind refl is
