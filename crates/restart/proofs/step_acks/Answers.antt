-- `restart::step_acks` meets its contract: a lawful K note takes what it acknowledges off the sums.
use mathlib.Core.Path.{refl}
use native.Mathlib.Omega.{arith}
use lib.ListN.{length}
use borrow.Author.Tests.{lt-ltb, le-ltb, le-leb, lt-leb}
use Rattle.book.specs.Memory.{slots_in}
use Rattle.note.specs.Notes.{Acks}
use Rattle.restart.specs.Steps.{kept_in}
use Rattle.restart.proofs.Stepping.{acks-by, acks-no, step-yes, last-is, on-acks, mem-acks}
use Rattle.restart.proofs.step_acks.Goals.{then-n-m-via-then-n-m, then-n-m-via-else-n-m+then-m-n}
use Rattle.restart.proofs.step_acks.Goals as goal

pub returns-then-n-m : goal.returns-then-n-m
returns-then-n-m c =
    let a = c.args in
    let m = a.mem.now in
    let q = kept_in a.m m in
    elim c.then-n-m.branch [
      | then-n-m-via-then-n-m w ↦ acks-no m q a.n (acks-by q a.n (le-ltb a.m.acked a.n w.if-n-m.true) refl)
      | then-n-m-via-else-n-m+then-m-n w ↦
          acks-no m q a.n (acks-by q a.n (lt-ltb a.m.acked a.n (omega arith)) (lt-leb a.n (length (slots_in a.m.last m)) (omega (arith, last-is a.m m))))
    ]

pub returns : goal.returns
returns c =
    let a = c.args in
    let m = a.mem.now in
    let q = kept_in a.m m in
    let t = acks-by q a.n (lt-ltb a.m.acked a.n (omega arith)) (le-leb a.n (length (slots_in a.m.last m)) (omega (arith, last-is a.m m))) in
    let off = c.take_off-day.ensures in
    (step-yes q (Acks a.n) _ t (on-acks a.m m a.n _ off.0), mem-acks m _ q a.n t off.1)
