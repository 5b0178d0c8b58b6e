-- `queue::Marks::offer` meets its contract: refused, none, or the next slot of the lent book as its line.
use mathlib.Core.Path.{ap, ◌∙◌}
use Prim.Native.Nat.{◌≤◌, ◌<◌}
use native.Mathlib.Omega.{arith}
use lib.ListN.{length}
use Rattle.fill.specs.Slot.{line_least}
use Rattle.book.specs.Memory.{slots_in}
use Rattle.queue.specs.declared.Marks.{Marks}
use Rattle.queue.specs.Queue.{gives}
use Rattle.queue.proofs.Offering.{offer-short, offer-past, offer-next}
use Rattle.queue.proofs.Marks.offer.Goals as goal

pub returns-then-line-line_least : goal.returns-then-line-line_least
returns-then-line-line_least c =
    let a = c.args in
    let least = c.line_least.ensures in
    offer-short a.setup a.self (slots_in a.self.last a.book.now) a.line.now (omega arith)

pub returns-then-self : goal.returns-then-self
returns-then-self c =
    let a = c.args in
    let least = c.line_least.ensures in
    offer-past a.setup a.self a.book.now a.line.now (omega arith) (omega arith)

pub returns : goal.returns
returns c =
    let a = c.args in
    let enough : line_least a.setup ≤ length a.line.now = omega (arith, c.line_least.ensures, c.if-line-line_least.false) in
    let next : a.self.offered < a.self.last = omega (arith, c.if-self.false) in
    let written = c.write_line-len.ensures in
    let g = offer-next a.setup a.self a.book.now a.line.now _ _ _ enough next c.slot_at.ensures written.line_after written.value written.line_bound in
    (ap (λ (m : Marks). gives m c.write_line-len.result) c.offered_up_to.ensures ∙ g.0, g.1)
