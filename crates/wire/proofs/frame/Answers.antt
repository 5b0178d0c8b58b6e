-- `wire::frame` meets its contract: the head is whole, since it is short, so the sum is of all of it.
use Rattle.std.proofs.Common.{◌≡◌, ◌≤◌, length, ap, ◌∙◌, append_assoc, arith}
use Rattle.text.specs.Decimal.{check_sum}
use Rattle.text.specs.Writing.{empty, puts, held}
use Rattle.text.proofs.Puts.{puts-puts, held-short}
use Rattle.wire.specs.Messages.{framed, headed}
use Rattle.wire.proofs.Bounds.{headed-length}
use Rattle.wire.proofs.frame.Goals as goal

pub returns : goal.returns
unfolding framed headed
returns c =
    let o = c.args.opening.now in
    let b = c.args.body.now in
    let h = headed o b in
    let fits : length h ≤ 512 = omega (arith, headed-length o b (omega (arith, c.requires)), c.requires) in
    let whole : c.all-2.new.self ≡ puts empty h = simp (c.all-2.ensures, c.number.ensures, c.all.ensures, c.requires.fresh, puts-puts, append_assoc) in
    let sum : c.from.result ≡ check_sum h =
    c.from.ensures ∙ c.byte_sum-total.ensures ∙ ap check_sum (c.held.ensures ∙ ap held whole ∙ held-short h fits) in
    simp (c.put.ensures, c.fixed.ensures, c.all-3.ensures, sum, whole, puts-puts, append_assoc)
