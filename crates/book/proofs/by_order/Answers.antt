use mathlib.Core.Path.{sym, ap₂, ◌∙◌}
use borrow.Author.Tests.{eq-eqb, ne_eqb, eqb-true}
use Rattle.octet.proofs.Cases.{true-not-false}
use Rattle.octet.specs.Bytes.{same}
use Rattle.book.proofs.Placing.{order-new, order-symbol, order-side, order_same}
use Rattle.book.proofs.by_order.Goals as goal

pub returns-then-is_empty : goal.returns-then-is_empty
returns-then-is_empty c =
    let a = c.args in
    order-new a.slot.now a.known.now (eqb-true _ _ (sym c.is_empty.ensures ∙ c.if-is_empty.true))

pub returns-then-not-same : goal.returns-then-not-same
returns-then-not-same c =
    let a = c.args in
    c.clash.ensures ∙ order-symbol a.slot.now a.known.now (λ e. true-not-false (sym (eq-eqb _ _ e) ∙ sym c.is_empty.ensures ∙ c.if-is_empty.false)) (sym (c.same.ensures ∙ ap₂ same c.symbol_of.ensures c.symbol_of-else-is_empty.ensures) ∙ c.if-not-same.true)

pub returns-then-side_of : goal.returns-then-side_of
returns-then-side_of c =
    let a = c.args in
    c.clash-then-side_of.ensures ∙ order-side a.slot.now a.known.now (λ e. true-not-false (sym (eq-eqb _ _ e) ∙ sym c.is_empty.ensures ∙ c.if-is_empty.false)) (sym (c.same.ensures ∙ ap₂ same c.symbol_of.ensures c.symbol_of-else-is_empty.ensures) ∙ c.if-not-same.false) (ne_eqb _ _ (λ e. c.if-side_of.true (c.side_of.ensures ∙ e ∙ sym c.side_of-else-not-same.ensures)))

pub returns-else-side_of : goal.returns-else-side_of
returns-else-side_of c =
    let a = c.args in
    order_same a.slot.now a.known.now (λ e. true-not-false (sym (eq-eqb _ _ e) ∙ sym c.is_empty.ensures ∙ c.if-is_empty.false)) (sym (c.same.ensures ∙ ap₂ same c.symbol_of.ensures c.symbol_of-else-is_empty.ensures) ∙ c.if-not-same.false) (eq-eqb _ _ (sym c.side_of.ensures ∙ c.if-side_of.false ∙ c.side_of-else-not-same.ensures))
