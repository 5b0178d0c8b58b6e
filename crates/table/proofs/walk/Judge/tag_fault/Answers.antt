-- `table::walk::Judge::tag_fault` meets its contract: a tag that is missing, that stands twice, and that stands once.
use mathlib.Core.Path.{◌≡◌, refl, sym, ap, ◌∙◌}
use Prim.Native.Nat.{ℕ}
use native.Mathlib.Omega.{arith}
use borrow.Author.Rules.{rules}
use Rattle.field.specs.Index.{column_of}
use Rattle.field.specs.Look.{text_in, count_in, look_in, seen_by}
use Rattle.field.specs.declared.Look.{Look}
use Rattle.table.specs.Steps.{value_check, check_fault}
use Rattle.table.proofs.Walks.{passed, tag-missing, tag-once, tag-twice}
use Rattle.table.proofs.walk.Judge.tag_fault.Goals as goal

-- how often a tag stands, by its column, and its value
counts : (look : Look) (tag column : ℕ) → column ≡ column_of tag → count_in look.index.now column ≡ (seen_by look).count tag
unfolding look_in
counts look tag column e = ap (count_in look.index.now) e

value : (look : Look) (tag column : ℕ) → column ≡ column_of tag → text_in look.body.now look.index.now column ≡ (seen_by look).text tag
unfolding look_in
value look tag column e = ap (text_in look.body.now look.index.now) e

pub returns-in-0 : goal.returns-in-0
returns-in-0 c =
    let a = c.args in
    let n = c.count_in.ensures ∙ counts a.self.look a.asked.tag a.column c.requires in
    rw (tag-missing a.self.given (seen_by a.self.look) a.asked.tag a.asked.needed a.asked.form (sym n ∙ c.in-0.is), c.if-asked.true, c.of.ensures)

pub returns-in-0-2 : goal.returns-in-0-2
returns-in-0-2 c =
    let a = c.args in
    let n = c.count_in.ensures ∙ counts a.self.look a.asked.tag a.column c.requires in
    rw (tag-missing a.self.given (seen_by a.self.look) a.asked.tag a.asked.needed a.asked.form (sym n ∙ c.in-0.is), c.if-asked.false)

pub returns-in-1 : goal.returns-in-1
returns-in-1 c =
    let a = c.args in
    let n = c.count_in.ensures ∙ counts a.self.look a.asked.tag a.column c.requires in
    let v = c.value_in.ensures ∙ value a.self.look a.asked.tag a.column c.requires in
    passed (check_fault a.asked.tag) refl _ _ c.map_err.ensures.cases (λ e d x. search rules)
    ∙ sym (tag-once a.self.given (seen_by a.self.look) a.asked.tag a.asked.needed a.asked.form (sym n ∙ c.in-1.is) ∙ ap (check_fault a.asked.tag) (sym (c.check_value.ensures ∙ ap (value_check a.self.given (seen_by a.self.look) a.asked.form) v)))

pub returns-in_default : goal.returns-in_default
returns-in_default c =
    let a = c.args in
    let n : c.count_in.result ≡ (seen_by a.self.look).count a.asked.tag = c.count_in.ensures ∙ counts a.self.look a.asked.tag a.column c.requires in
    rw (c.of-in_default.ensures, tag-twice a.self.given (seen_by a.self.look) a.asked.tag a.asked.needed a.asked.form (λ e. omega arith) (λ e. omega arith))
