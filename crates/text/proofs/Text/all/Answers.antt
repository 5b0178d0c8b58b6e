-- `text::Text::all` meets its contract: what is copied at once is what would be put byte by byte, and where it does not fit nothing is copied.
-- Assumes nothing.
use Rattle.std.proofs.Common.{sym, ◌∙◌, rules}
use Rattle.text.proofs.Puts.{copied, left}
use Rattle.text.proofs.Text.all.Goals as goal

pub returns-then-copy_into : goal.returns-then-copy_into
returns-then-copy_into c = copied _ _ _ (search rules) (sym c.copy_into.ensures.0 ∙ c.if-copy_into.true) c.copy_into.ensures.1

pub returns-else-copy_into : goal.returns-else-copy_into
returns-else-copy_into c =
    let e = left c.args.self.now c.args.s.now c.copy_into.new.dst (sym c.copy_into.ensures.0 ∙ c.if-copy_into.false) c.copy_into.ensures.1 in
    rw e at c.each.ensures
