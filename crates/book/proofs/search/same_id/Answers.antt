use mathlib.Core.Path.{sym, ap₂, ◌∙◌}
use borrow.Author.Tests.{eq-eqb, eqb-true}
use native.Mathlib.Omega.{arith}
use lib.Dec.{eqb}
use Rattle.octet.proofs.Cases.{true-not-false}
use Rattle.octet.proofs.Places.{word-differs}
use Rattle.book.proofs.Words.{words_same}
use Rattle.book.proofs.search.same_id.Goals as goal
use Rattle.book.proofs.search.same_id.Goals.{then-word_at, else-word_at}

pub returns-then-word_at-2 : goal.returns-then-word_at-2
returns-then-word_at-2 c =
    let a = c.args in
    elim c.if-word_at.branch [
      | then-word_at w ↦ ap₂ eqb c.word_at-then-word_at-2-2.ensures c.word_at-then-word_at-2-3.ensures
          ∙ words_same a.x.now a.y.now (λ i. omega (arith, c.type_inv.x i)) (λ i. omega (arith, c.type_inv.y i)) c.if-x-ne-ID.false c.if-y-ne-ID.false
          (sym c.word_at.ensures ∙ w.if-word_at.true ∙ c.word_at-2.ensures)
          (sym w.word_at-then-word_at.ensures ∙ eqb-true _ _ (sym w.value-is ∙ c.if-word_at-2.true) ∙ w.word_at-then-word_at-2.ensures)
      | else-word_at w ↦ absurd (w.if-word_at.false (eqb-true _ _ (sym w.value-is ∙ c.if-word_at-2.true)))
    ]

pub returns-else-word_at-2 : goal.returns-else-word_at-2
returns-else-word_at-2 c =
    let a = c.args in
    elim c.if-word_at.branch [
      | then-word_at w ↦ c.if-word_at-2.false
          ∙ sym (word-differs 8 a.x.now a.y.now
          (λ e. true-not-false (sym (eq-eqb _ _ (w.word_at-then-word_at.ensures ∙ e ∙ sym w.word_at-then-word_at-2.ensures)) ∙ sym w.value-is ∙ c.if-word_at-2.false)))
      | else-word_at w ↦ c.if-word_at-2.false
          ∙ sym (word-differs 0 a.x.now a.y.now (λ e. w.if-word_at.false (c.word_at.ensures ∙ e ∙ sym c.word_at-2.ensures)))
    ]
