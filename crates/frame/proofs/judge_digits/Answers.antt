-- `frame::judge_digits` meets its contract: by the digits that are read.
use mathlib.Core.Path.{◌≡◌, refl, sym, ap, ◌∙◌}
use mathlib.Core.Bool.{Bool, true, false, ◌&&◌}
use lib.Dec.{leb}
use native.Mathlib.Omega.{arith}
use borrow.Author.Tests.{le-leb, lt-leb, eq-eqb, ne_eqb}
use Rattle.octet.proofs.Lists.{part-rest}
use Rattle.text.specs.Decimal.{digits_at_front}
use Rattle.frame.proofs.Steps.{digits-many, digits-few}
use Rattle.frame.proofs.judge_digits.Goals as goal
use Rattle.frame.proofs.judge_digits.Goals.{then-width-eq0-via-then-width-eq0, then-width-eq0-via-else-width-eq0+then-s-end-ne-BAR}

pub returns-then-width-gt-MOST_DIGITS : goal.returns-then-width-gt-MOST_DIGITS
returns-then-width-gt-MOST_DIGITS c =
    let told = c.read_digits-d.ensures.value ∙ ap (digits_at_front 5) (part-rest c.args.s.now c.args.at) in
    sym (digits-many c.args.at c.args.s.now _ told c.if-width-gt-MOST_DIGITS.true)

pub returns-then-s-end : goal.returns-then-s-end
returns-then-s-end c =
    let told = c.read_digits-d.ensures.value ∙ ap (digits_at_front 5) (part-rest c.args.s.now c.args.at) in
    simp (digits-few c.args.at c.args.s.now _ told c.if-width-gt-MOST_DIGITS.false, le-leb _ _ c.if-s-end.true)

and-no : (a : Bool) → (a && false) ≡ false
and-no true = refl
and-no false = refl

pub returns-then-width-eq0 : goal.returns-then-width-eq0
returns-then-width-eq0 c =
    let told = c.read_digits-d.ensures.value ∙ ap (digits_at_front 5) (part-rest c.args.s.now c.args.at) in
    let few = digits-few c.args.at c.args.s.now _ told c.if-width-gt-MOST_DIGITS.false in
    elim c.then-width-eq0.branch [
      | then-width-eq0-via-then-width-eq0 w ↦ rw (few, lt-leb _ _ c.if-s-end.false, w.if-width-eq0.true)
      | then-width-eq0-via-else-width-eq0+then-s-end-ne-BAR w ↦
          rw (few, lt-leb _ _ c.if-s-end.false, ne_eqb _ _ w.if-s-end-ne-BAR.true, and-no (leb 1 c.read_digits-d.result.len))
    ]

pub returns : goal.returns
returns c =
    let told = c.read_digits-d.ensures.value ∙ ap (digits_at_front 5) (part-rest c.args.s.now c.args.at) in
    rw
    (digits-few c.args.at c.args.s.now _ told c.if-width-gt-MOST_DIGITS.false, lt-leb _ _ c.if-s-end.false, le-leb 1 c.read_digits-d.result.len (omega arith), eq-eqb _ _ c.if-s-end-ne-BAR.false)
    c.judge_length.ensures
