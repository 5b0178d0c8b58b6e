-- `octet::word_at` meets its contract.
use mathlib.Core.Path.{◌≡◌, ap, ◌∙◌}
use Prim.Native.Nat.{◌≤◌, ◌+◌}
use lib.Dec.{lit<}
use lib.ListN.{length}
use Rattle.std.specs.Int.{w64, from_le_bytes}
use Rattle.octet.specs.Bytes.{part}
use Rattle.octet.proofs.Lists.{part-whole, part-fewer, length_part}
use Rattle.octet.proofs.Places.{little-eight, word-there, word_none}
use Rattle.octet.proofs.word_at.Goals as goal

pub returns-in-Some : goal.returns-in-Some
returns-in-Some c =
    let a = c.args in
    let s = a.s.now in
    let e : c.in-Some.eight.now ≡ part a.at 8 s = c.in-Some.ensures.cases.same ∙ c.part.ensures in
    let h : a.at + 8 ≤ length s = part-whole a.at 8 s c.part.ensures (lit< tt) c.in-Some.ensures.cases.long in
    c.from_le_bytes.ensures
    ∙ ap (from_le_bytes w64) e
    ∙ little-eight (part a.at 8 s) (length_part a.at 8 s h)
    ∙ word-there a.at s h

pub returns-in-None : goal.returns-in-None
returns-in-None c =
    let a = c.args in
    word_none a.at a.s.now (part-fewer a.at 8 a.s.now c.part.ensures c.in-None.ensures.cases)
