-- The piece from a place to the next `|`, which stands behind its tag, and the place after it.
use mathlib.Core.Path.{sym, ◌∙◌}
use native.Mathlib.Omega.{arith}
use Rattle.field.proofs.Heads.{len_is, tag-inside, tag-end, tag-step, stray-end, stray-step}
use Rattle.field.proofs.step_from.Goals as goal

pub is_tagged-requires : goal.is_tagged-requires
is_tagged-requires c = len_is _ _ c.digits_of-digits.ensures.0

pub slice_bounds-until_bar-count : goal.slice_bounds-until_bar-count
slice_bounds-until_bar-count c = tag-inside _ _ c.requires _ c.digits_of-digits.ensures.0 (sym c.is_tagged.ensures ∙ c.if-is_tagged.true)

pub slice_bounds-until_bar-start : goal.slice_bounds-until_bar-start
slice_bounds-until_bar-start c = tag-inside _ _ c.requires _ c.digits_of-digits.ensures.0 (sym c.is_tagged.ensures ∙ c.if-is_tagged.true)

pub overflow_add-start-then-is_tagged : goal.overflow_add-start-then-is_tagged
overflow_add-start-then-is_tagged c =
    omega (arith, tag-end _ _ c.requires _ c.digits_of-digits.ensures.0 (sym c.is_tagged.ensures ∙ c.if-is_tagged.true) _ c.until_bar-len.ensures)

pub overflow_add-start-then-is_tagged-2 : goal.overflow_add-start-then-is_tagged-2
overflow_add-start-then-is_tagged-2 c =
    omega (arith, tag-end _ _ c.requires _ c.digits_of-digits.ensures.0 (sym c.is_tagged.ensures ∙ c.if-is_tagged.true) _ c.until_bar-len.ensures)

pub returns-then-is_tagged : goal.returns-then-is_tagged
returns-then-is_tagged c =
    tag-step _ _ c.requires _ c.digits_of-digits.ensures.0 (sym c.is_tagged.ensures ∙ c.if-is_tagged.true) _ c.until_bar-len.ensures _ c.min.ensures

pub overflow_add-n : goal.overflow_add-n
overflow_add-n c = omega (arith, stray-end _ _ c.requires _ c.digits_of-digits.ensures.0 _ c.until.ensures)

pub overflow_add-at : goal.overflow_add-at
overflow_add-at c = omega (arith, stray-end _ _ c.requires _ c.digits_of-digits.ensures.0 _ c.until.ensures)

pub overflow_add-at-2 : goal.overflow_add-at-2
overflow_add-at-2 c = omega (arith, stray-end _ _ c.requires _ c.digits_of-digits.ensures.0 _ c.until.ensures)

pub returns : goal.returns
returns c = stray-step _ _ c.requires _ c.digits_of-digits.ensures.0 _ c.until.ensures (sym c.is_tagged.ensures ∙ c.if-is_tagged.false) _ c.min-2.ensures
