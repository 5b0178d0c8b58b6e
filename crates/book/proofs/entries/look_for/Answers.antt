use Prim.Native.Nat.{ℕ}
use Rattle.book.proofs.Finds.{find-inside}
use Rattle.book.proofs.Keyed.{key-empty}
use Rattle.book.proofs.Regions.{slots-wide}
use Rattle.book.specs.Entries.{same_key}
use Rattle.book.specs.Memory.{slots_here, region_of, cells}
use Rattle.book.specs.Seeing.{found_at}
use Rattle.fill.specs.Slot.{slot_width}
use Rattle.octet.specs.Maybe.{find}
use mathlib.Core.List.{List}
use mathlib.Core.Path.{◌≡◌, subst, ◌∙◌}
use native.Mathlib.Omega.{arith}
use Rattle.book.proofs.entries.look_for.Goals as goal

pub returns : goal.returns
returns c =
    let a = c.args in
    let m = region_of slots_here a.book.now in
    let p = same_key a.slot.now in
    let of = c.of.ensures in
    let there = subst (λ (l : List ℕ). found_at l c.find_key.result ≡ find p (cells slot_width c.of.result.count l)) of.0 c.find_key.ensures in
    subst (λ (k : ℕ). found_at m c.find_key.result ≡ find p (cells slot_width k m)) of.1 there
    ∙ find-inside p (key-empty a.slot.now) a.count m (slots-wide a.book.now (omega arith))
