-- `parts::relay_each` meets its contract: each turn writes one part more.
use mathlib.Core.Path.{◌≡◌, sym, ◌∙◌}
use Prim.Native.Nat.{◌≤◌}
use native.Mathlib.Omega.{arith}
use lib.ListN.{length, get_or, length-append}
use Rattle.std.proofs.lemmas.Slice.Zip.{zip_turn, zip_end}
use Rattle.parts.proofs.Relaying.{going_on, turns-done}
use Rattle.parts.proofs.relay_each.Goals as goal

pub loop-f-preserved : goal.loop-f-preserved
loop-f-preserved c =
    let a = c.args in
    let i = length c.loop-f.yielded in
    let turn = zip_turn a.from.now a.to.now c.loop-f.yielded _ c.loop-f.f-iterator c.next.new.self c.next.result (cc) (cc) c.loop-f.yielded_by (c.in-Some.f, c.in-Some.t) c.in-Some.is c.next.ensures.steps in
    let had : c.from-had.result ≡ get_or a.from.now i 0 = c.from-had.ensures ∙ turn.2 0 in
    let width : c.from-width.result ≡ get_or a.to.now i 0 = c.from-width.ensures ∙ turn.3 0 in
    let byte : c.from-had.result ≤ 255 = omega (arith, c.type_inv.from i) in
    rw length-append
    (going_on a.dst.now a.at a.src.now a.from.now a.to.now _ i c.loop-f.p c.loop-f.q _ _ _ _ c.loop-f.invariant turn.1 (omega arith) had byte width c.part.ensures c.put_filled.ensures)

pub returns : goal.returns
returns c =
    let a = c.args in
    let end = zip_end a.from.now a.to.now c.loop-f.yielded _ c.loop-f.f-iterator c.next.new.self c.next.result (cc) (cc) c.loop-f.yielded_by c.in-None.is c.next.ensures.steps in
    sym (turns-done _ a.src.now a.from.now a.to.now (length c.loop-f.yielded) c.loop-f.p c.loop-f.q (omega (arith, end))) ∙ c.loop-f.invariant.same
