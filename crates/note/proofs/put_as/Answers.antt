-- `note::put_as` meets its contract: the kind byte, E and O, and then the parts of the slot as the kind has them.
use mathlib.Core.Path.{◌≡◌, sym, ap, ap₂, ◌∙◌}
use mathlib.Core.Bool.{true}
use mathlib.Core.List.{List, ◌∷◌, ◌++◌}
use Prim.Native.Nat.{ℕ}
use native.Mathlib.Omega.{arith}
use lib.ListN.{length}
use Rattle.octet.specs.Bytes.{sum_of}
use Rattle.octet.specs.Places.{high}
use Rattle.octet.specs.Splice.{splice}
use Rattle.octet.proofs.Lists.{part-all}
use Rattle.parts.specs.Relaid.{relaid}
use Rattle.fill.specs.Booked.{widths_for}
use Rattle.note.specs.declared.NoteKind.{NoteKind}
use Rattle.note.specs.Kinds.{note_kind}
use Rattle.note.specs.Notes.{booked_bytes, body_as}
use Rattle.note.proofs.Kinding.{kind-proper, slot-parts, slot-sum}
use Rattle.note.proofs.Reading.{body-length, booked-length}
use Rattle.note.proofs.Writing.{put-short, put_whole, booked-room, booked-writes}
use Rattle.note.proofs.put_as.Goals as goal

pub returns-then-note-kind : goal.returns-then-note-kind
returns-then-note-kind c =
    let a = c.args in
    let l = booked-length a.byte a.e a.o a.slot.now c.requires in
    put-short a.note.now (booked_bytes a.byte a.e a.o a.slot.now) (omega (arith, ap (λ (x : NoteKind). x.size) c.note_kind-kind.ensures))

pub put_numbers-requires : goal.put_numbers-requires
put_numbers-requires c =
    let a = c.args in
    let r = booked-room a.byte c.note_kind-kind.result c.requires c.note_kind-kind.ensures in
    omega arith

pub lay-requires : goal.lay-requires
lay-requires c =
    let a = c.args in
    let is = c.note_kind-kind.ensures in
    let p = kind-proper a.byte in
    let kind = c.note_kind-kind.result in
    let from : c.slot_widths-from.result ≡ widths_for (note_kind a.byte).mark = c.slot_widths-from.ensures ∙ ap (λ (x : NoteKind). widths_for x.mark) is in
    let parts : length kind.widths ≡ length (widths_for (note_kind a.byte).mark) = ap (λ (x : NoteKind). length x.widths) is ∙ p.parts in
    let own : kind.own ≡ true → kind.widths ≡ widths_for (note_kind a.byte).mark =
    λ e. ap (λ (x : NoteKind). x.widths) is ∙ p.own-widths (ap (λ (x : NoteKind). x.own) (sym is) ∙ e) in (
      (λ e. (from ∙ sym (own e), ap sum_of (own e) ∙ slot-sum (note_kind a.byte).mark)),
      ap length from ∙ sym parts,
      omega (arith, parts, slot-parts (note_kind a.byte).mark),
    )

pub returns : goal.returns
returns c =
    let a = c.args in
    let d = a.note.now in
    let s = a.slot.now in
    let kind = c.note_kind-kind.result in
    let l = booked-length a.byte a.e a.o s c.requires in
    let z = ap (λ (x : NoteKind). x.size) c.note_kind-kind.ensures in
    let w = booked-room a.byte kind c.requires c.note_kind-kind.ensures in
    let m = body-length (note_kind a.byte) s (kind-proper a.byte) in
    let v = ap (λ (x : NoteKind). sum_of x.widths) c.note_kind-kind.ensures in
    put_whole d (booked_bytes a.byte a.e a.o s) c.lay.new.dst kind.size (omega arith) (omega arith)
    (c.lay.ensures
    ∙ ap (λ (ws : List ℕ). splice c.put_numbers.new.note 9 (relaid ws kind.widths c.part.result.now)) c.slot_widths-from.ensures
    ∙ ap₂ (λ (x y : List ℕ). splice x 9 (relaid (widths_for kind.mark) kind.widths y)) c.put_numbers.ensures (c.part.ensures ∙ part-all 1 (length s) s (omega arith))
    ∙ ap (λ (x : NoteKind). splice (splice d 0 (a.byte ∷ (high 4 a.e ++ high 4 a.o))) 9 (body_as x s)) c.note_kind-kind.ensures
    ∙ booked-writes d a.byte a.e a.o s (omega arith))
