use Prim.Native.Nat.{ℕ}
use Rattle.book.proofs.Finds.{exec-empty, order-empty, find-inside, last-inside}
use Rattle.book.proofs.Regions.{slots-wide}
use Rattle.book.specs.Memory.{slots_here, region_of, cells}
use Rattle.book.specs.Place.{same_exec, same_order}
use Rattle.book.specs.Seeing.{Sees}
use Rattle.fill.specs.Slot.{slot_width}
use mathlib.Core.List.{List}
use mathlib.Core.Path.{sym, subst, ◌∙◌}
use native.Mathlib.Omega.{arith}
use Rattle.book.proofs.look.Goals as goal

pub returns : goal.returns
returns c =
    let a = c.args in
    let m = region_of slots_here a.book.now in
    let f = a.slot.now in
    let whole = slots-wide a.book.now (omega arith) in
    let of = c.of.ensures in
    let there = subst (λ (l : List ℕ). Sees l f (cells slot_width c.of.result.count l) c.walk.result) of.0 c.walk.ensures in
    let seen = subst (λ (k : ℕ). Sees m f (cells slot_width k m) c.walk.result) of.1 there in (
      seen.0 ∙ last-inside (same_exec f) (exec-empty f) a.count m whole,
      λ e. sym (find-inside (same_order f) (order-empty f) a.count m whole) ∙ seen.1 e,
    )
