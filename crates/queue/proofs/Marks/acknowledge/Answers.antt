-- `queue::Marks::acknowledge` meets its contract, case by case.
use mathlib.Core.Path.{ap, ◌∙◌}
use Prim.Native.Nat.{ℕ}
use native.Mathlib.Omega.{arith}
use Rattle.queue.specs.Queue.{acked_up_to}
use Rattle.queue.specs.declared.Marks.{Marks}
use Rattle.queue.specs.Queue.{Acknowledged}
use Rattle.std.specs.Prelude.{Ok, Some}
use Rattle.queue.proofs.Offering.{ack-short, ack-above, ack-already, ack-taken}
use Rattle.queue.proofs.Marks.acknowledge.Goals as goal

pub returns-then-note-note_least : goal.returns-then-note-note_least
returns-then-note-note_least c =
    let a = c.args in
    let least = c.note_least.ensures in
    let g = ack-short a.setup a.self a.n a.book.now a.note.now (omega arith) in
    g

pub returns-then-self-n : goal.returns-then-self-n
returns-then-self-n c =
    let a = c.args in
    let least = c.note_least.ensures in
    let g = ack-above a.setup a.self a.n a.book.now a.note.now (omega arith) (omega arith) in
    g

pub returns-then-n-self : goal.returns-then-n-self
returns-then-n-self c =
    let a = c.args in
    let least = c.note_least.ensures in
    let g = ack-already a.setup a.self a.n a.book.now a.note.now (omega arith) (omega arith) (omega arith) in
    g

abbrev taken : Marks → Acknowledged
taken m = Ok (Some m)

pub returns : goal.returns
returns c =
    let a = c.args in
    let enough = c.note_least.ensures in
    let g = ack-taken a.setup a.self a.n a.book.now a.note.now (omega arith) (omega arith) (omega arith) in
    let off = c.take_off-day.ensures in
    (ap taken (c.acked_up_to.ensures ∙ ap (λ (d : ℕ). acked_up_to a.n d a.self) off.0) ∙ g.0, off.1 ∙ g.1, c.put_acks.ensures.1 ∙ g.2)
