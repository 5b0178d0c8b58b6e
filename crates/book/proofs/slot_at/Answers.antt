use Prim.Native.Nat.{ℕ, ◌*◌}
use Rattle.book.proofs.Regions.{slot-past}
use Rattle.book.specs.Memory.{most_slots}
use Rattle.fill.specs.Slot.{slot_width}
use Rattle.octet.proofs.Lists.{part-part}
use Rattle.octet.specs.Bytes.{part}
use mathlib.Core.Path.{sym, ap, ◌∙◌}
use native.Mathlib.Nat.{zero-add}
use native.Mathlib.Omega.{arith}
use Rattle.book.proofs.slot_at.Goals as goal

pub returns-then-i-ge-SLOTS : goal.returns-then-i-ge-SLOTS
returns-then-i-ge-SLOTS c =
    let a = c.args in
    let m = a.book.now in
    c.part.ensures ∙ sym (slot-past a.i m (omega arith))

pub returns : goal.returns
returns c =
    let a = c.args in
    let m = a.book.now in
    c.part-2.ensures
    ∙ ap (λ (p : ℕ). part p slot_width m) (c.place_of.ensures ∙ sym (zero-add (a.i * slot_width)))
    ∙ sym (part-part 0 (most_slots * slot_width) (a.i * slot_width) slot_width m (omega arith))
