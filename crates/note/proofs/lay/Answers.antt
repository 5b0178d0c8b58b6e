-- `note::lay` meets its contract: a slot's own parts stay as they are.
use mathlib.Core.Path.{sym, ap, ◌∙◌}
use mathlib.Core.List.{List}
use Prim.Native.Nat.{ℕ}
use native.Mathlib.Omega.{arith}
use lib.ListN.{take}
use Rattle.octet.specs.Splice.{splice}
use Rattle.parts.specs.Relaid.{relaid}
use Rattle.parts.proofs.Relaying.{relaid-same, relays-writes}
use Rattle.note.proofs.lay.Goals as goal

pub returns-then-src-ge-BODY : goal.returns-then-src-ge-BODY
returns-then-src-ge-BODY c =
    let a = c.args in
    let pre = c.requires in
    let if1 = c.if-own in
    let if2 = c.if-src-ge-BODY in
    let part = c.part in
    let copy-into = c.copy_into in
    let both = pre.0 if1.true in
    let x = a.src.now in
    let to = a.to.now in
    copy-into.ensures.1
    ∙ ap (splice a.dst.now a.at)
    (part.ensures
    ∙ ap (λ (n : ℕ). take n x) (sym both.1)
    ∙ sym (relaid-same to x (omega (arith, both.1, if2.true)))
    ∙ ap (λ (from : List ℕ). relaid from to x) (sym both.0))

pub returns : goal.returns
returns c =
    let a = c.args in
    let pre = c.requires in
    let relay = c.relay in
    relays-writes a.dst.now a.at a.src.now a.from.now a.to.now relay.ensures pre.1 pre.2
