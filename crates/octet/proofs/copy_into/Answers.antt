-- `octet::copy_into` meets its contract: each turn's store pastes a byte more.
use mathlib.Core.Path.{◌≡◌, sym, ap, ◌∙◌}
use mathlib.Core.List.{List}
use Prim.Native.Nat.{ℕ, ◌+◌}
use native.Mathlib.Omega.{arith}
use borrow.Author.Tests.{leb-true}
use lib.ListN.{length, set, get_or}
use lib.Seq.{paste, paste-zero, take-length}
use Rattle.std.proofs.lemmas.List.Edits.{paste_more}
use Rattle.octet.specs.Splice.{splice}
use Rattle.octet.proofs.Lists.{no-room}
use Rattle.octet.proofs.copy_into.Goals as goal

pub returns-then-not-has_room : goal.returns-then-not-has_room
returns-then-not-has_room c =
    let a = c.args in
    no-room a.dst.now a.at a.src.now (sym c.has_room.ensures ∙ c.if-not-has_room.true)

pub loop-i-init : goal.loop-i-init
loop-i-init c = let a = c.args in paste-zero a.dst.now a.at a.src.now

pub loop-i-preserved : goal.loop-i-preserved
loop-i-preserved c =
    let a = c.args in
    let i = c.loop-i.i in
    let here = a.at + i in
    let room = leb-true (a.at + length a.src.now) (length a.dst.now) (sym c.has_room.ensures ∙ c.if-not-has_room.false) in
    ap (λ (l : List ℕ). set l here (get_or a.src.now i 0)) c.loop-i.invariant ∙ paste_more a.dst.now a.at a.src.now i 0 (omega arith) c.loop-i-test.true

pub returns : goal.returns
unfolding splice
returns c =
    let a = c.args in
    let all : c.loop-i.i ≡ length a.src.now = omega arith in
    let e = sym c.has_room.ensures ∙ c.if-not-has_room.false in
    (sym e, simp e (c.loop-i.invariant ∙ ap (paste a.dst.now a.at a.src.now) all ∙ simp (take-length a.src.now)))
