-- `receiver::messages::respond` meets its contract.
use mathlib.Core.Path.{sym, ap, ◌∙◌}
use Rattle.field.specs.Pieces.{pieces_of}
use Prim.Native.Nat.{ℕ}
use Rattle.field.specs.Look.{Look, look_of, at_listed}
use Rattle.field.proofs.Looks.{look-by}
use Rattle.session.proofs.Listed.{word-listed}
use Rattle.receiver.proofs.Framing.{answered-refused, answered-said, answered-keeps, answered-kept}
use Rattle.receiver.proofs.messages.respond.Goals as goal

pub decide-requires : goal.decide-requires
decide-requires c = c.index_into-scan.ensures

-- what is kept is a slot, and so is the memory that it was written into
pub slice_bounds-keep-end : goal.slice_bounds-keep-end
slice_bounds-keep-end c =
    let a = c.args in
    sym (answered-keeps a.setup a.st a.book.now a.time.now a.len (pieces_of a.body.now) c.decide.ensures _ _ _ (rw c.in-Ok-Keep.field-0-is at (sym c.in-Ok-Keep.is))).wide

pub keep-requires : goal.keep-requires
keep-requires c =
    let a = c.args in
    (answered-keeps a.setup a.st a.book.now a.time.now a.len (pieces_of a.body.now) c.decide.ensures _ _ _ (rw c.in-Ok-Keep.field-0-is at (sym c.in-Ok-Keep.is)), c.requires.1)

pub returns-in-Err : goal.returns-in-Err
returns-in-Err c =
    let a = c.args in
    answered-refused a.setup a.st a.book.now a.time.now a.len (pieces_of a.body.now) c.decide.ensures _ (sym c.in-Err.is) c.plain.ensures

pub returns-in-Ok-Say : goal.returns-in-Ok-Say
returns-in-Ok-Say c =
    let a = c.args in
    let index-into = c.index_into-scan in
    let decide = c.decide in
    let word-tag = c.word_tag in
    let value = c.value-word in
    let look = look_of (pieces_of a.body.now) in
    let word =
    value.ensures ∙ ap (λ (x : Look). x.text word-tag.result) (look-by a.body.now index-into.ensures.1)
    ∙ ap (λ (t : ℕ). (at_listed look).text t) word-tag.ensures ∙ word-listed look c.in-Ok-Say.j.reply ∙ ap (λ (t : ℕ). look.text t) (sym word-tag.ensures) in
    answered-said a.setup a.st a.book.now a.time.now a.len (pieces_of a.body.now) decide.ensures _ (rw c.in-Ok-Say.field-0-is at (sym c.in-Ok-Say.is)) word word-tag.ensures
    c.settle.ensures

pub returns-in-Ok-Keep : goal.returns-in-Ok-Keep
returns-in-Ok-Keep c =
    let a = c.args in
    let decide = c.decide in
    answered-kept a.setup a.st a.book.now a.time.now a.len (pieces_of a.body.now) decide.ensures _ _ _ (rw c.in-Ok-Keep.field-0-is at (sym c.in-Ok-Keep.is))
    (c.keep.ensures a.reply.now)
