-- `parts::relay` meets its contract: it is refused, or one copy, or the parts one by one.
use mathlib.Core.Path.{◌≡◌, sym, ◌∙◌}
use mathlib.Core.Bool.{true}
use native.Mathlib.Omega.{arith}
use Rattle.octet.specs.Bytes.{same}
use Rattle.parts.proofs.Relaying.{relays-uneven, relays-many, relays-no-room, relays-each, relays-same}
use Rattle.parts.proofs.relay.Goals as goal

pub returns-then-from-to : goal.returns-then-from-to
returns-then-from-to c =
    let a = c.args in
    relays-uneven a.dst.now a.at a.src.now a.from.now a.to.now c.if-from-to.true

pub returns-then-to-gt-MOST_PARTS : goal.returns-then-to-gt-MOST_PARTS
returns-then-to-gt-MOST_PARTS c =
    let a = c.args in
    relays-many a.dst.now a.at a.src.now a.from.now a.to.now c.if-to-gt-MOST_PARTS.true

pub returns-then-dst-at : goal.returns-then-dst-at
returns-then-dst-at c =
    let a = c.args in
    relays-no-room a.dst.now a.at a.src.now a.from.now a.to.now (omega arith) (omega arith) (omega arith)

pub returns-then-dst-at-2 : goal.returns-then-dst-at-2
returns-then-dst-at-2 c =
    let a = c.args in
    let size = c.total-size.ensures in
    relays-no-room a.dst.now a.at a.src.now a.from.now a.to.now (omega arith) (omega arith) (omega arith)

pub returns-then-same : goal.returns-then-same
returns-then-same c =
    let a = c.args in
    let size = c.total-size.ensures in
    let stays : same a.from.now a.to.now ≡ true = sym c.same.ensures ∙ c.if-same.true in
    relays-same a.dst.now a.at a.src.now a.from.now a.to.now (omega arith) (omega arith) size (omega arith) stays
    c.part.ensures c.copy_into.ensures.0 c.copy_into.ensures.1

pub relay_each-requires : goal.relay_each-requires
relay_each-requires c =
    let size = c.total-size.ensures in
    (omega arith, omega arith, omega arith)

pub returns : goal.returns
returns c =
    let a = c.args in
    let size = c.total-size.ensures in
    relays-each a.dst.now a.at a.src.now a.from.now a.to.now (omega arith) (omega arith) (omega arith) c.relay_each.ensures
