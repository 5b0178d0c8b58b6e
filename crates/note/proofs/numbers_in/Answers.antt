-- `note::numbers_in` meets its contract: what stands after the two numbers does not matter.
use mathlib.Core.Path.{◌≡◌, sym, ap, ◌∙◌}
use mathlib.Core.List.{List}
use Prim.Native.Nat.{ℕ}
use native.Mathlib.Omega.{arith}
use lib.ListN.{take, drop}
use lib.Seq.{take-take}
use Rattle.octet.specs.Places.{big_endian}
use Rattle.octet.proofs.Lists.{part-take, length_part}
use Rattle.note.specs.Notes.{four_at}
use Rattle.note.proofs.numbers_in.Goals as goal

first-stays : (s : List ℕ) → four_at 1 (take 9 s) ≡ four_at 1 s
first-stays s = ap big_endian (ap (take 4) (part-take 1 8 s) ∙ take-take 4 8 (drop 1 s) (omega arith))

second-stays : (s : List ℕ) → four_at 5 (take 9 s) ≡ four_at 5 s
second-stays s = ap big_endian (ap (take 4) (part-take 5 4 s) ∙ take-take 4 4 (drop 5 s) (omega arith))

pub returns-then-s-lt-RAISES : goal.returns-then-s-lt-RAISES
returns-then-s-lt-RAISES c = λ i. record { e = c.four_at.ensures i; o = c.four_at-then-s-lt-RAISES.ensures i }

pub slice_bounds-both-end : goal.slice_bounds-both-end
slice_bounds-both-end c = sym (length_part 0 9 c.args.s.now (omega arith))

pub returns : goal.returns
returns c =
    let s = c.args.s.now in
    λ i. record { e = (c.four_at-2.ensures ∙ first-stays s) i; o = (c.four_at-3.ensures ∙ second-stays s) i }
