use Rattle.fill.specs.Slot.{slot_width}
use Rattle.book.specs.Memory.{most_slots, fits_after}
use mathlib.Core.Path.{◌≡◌, sym, ap, ◌∙◌}
use mathlib.Core.Bool.{false}
use native.Mathlib.Omega.{arith}
use borrow.Author.Tests.{eq-eqb, ne_eqb, le-ltb, lt-ltb}
use lib.ListN.{length}
use lib.Dec.{ltb, eqb}
use Prim.Native.Nat.{ℕ, ◌+◌, ◌*◌}
use native.Mathlib.Nat.{zero-add}
use Rattle.octet.specs.Splice.{splice, fits_at}
use Rattle.octet.proofs.Cases.{and-make, and-no-left, and-no-right}
use Rattle.octet.proofs.Lists.{fits-true}
use Rattle.book.proofs.Regions.{appended-in, appended-out}
use Rattle.book.proofs.append.Goals as goal
use Rattle.book.proofs.append.Goals.{then-count-ge-SLOTS-via-then-count-ge-SLOTS, then-count-ge-SLOTS-via-else-count-ge-SLOTS+then-slot-ne-SLOT}

pub returns-then-count-ge-SLOTS : goal.returns-then-count-ge-SLOTS
returns-then-count-ge-SLOTS c =
    let a = c.args in
    let e : fits_after a.count a.slot.now ≡ false =
    elim c.then-count-ge-SLOTS.branch [
      | then-count-ge-SLOTS-via-then-count-ge-SLOTS w ↦ and-no-left (ltb a.count most_slots) (eqb (length a.slot.now) slot_width) (le-ltb a.count most_slots (omega arith))
      | then-count-ge-SLOTS-via-else-count-ge-SLOTS+then-slot-ne-SLOT w ↦ and-no-right (ltb a.count most_slots) (eqb (length a.slot.now) slot_width) (ne_eqb _ _ w.if-slot-ne-SLOT.true)
    ] in
    (sym e, sym (appended-out a.book.now a.count a.slot.now e))

pub returns : goal.returns
returns c =
    let a = c.args in
    let m = a.book.now in
    let s = a.slot.now in
    let n = c.if-slot-ne-SLOT.false in
    let at = c.place_of.ensures ∙ sym (zero-add (a.count * slot_width)) in
    let room = fits-true m (0 + a.count * slot_width) s (omega arith) in
    let fits = and-make (ltb a.count most_slots) (eqb (length s) slot_width) (lt-ltb a.count most_slots (omega arith)) (eq-eqb _ _ n) in (
      c.copy_into.ensures.0 ∙ ap (λ (p : ℕ). fits_at m p s) at ∙ room ∙ sym fits,
      c.copy_into.ensures.1 ∙ ap (λ (p : ℕ). splice m p s) at ∙ sym (appended-in m a.count s (omega arith) n),
    )
