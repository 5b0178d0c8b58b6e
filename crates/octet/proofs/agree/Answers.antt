-- `octet::agree` meets its contract: one begins with the other.
use mathlib.Core.Path.{◌≡◌, sym, ◌∙◌}
use mathlib.Core.Bool.{true, false}
use lib.Dec.{eqb}
use Rattle.std.specs.List.{starts_with}
use Rattle.octet.proofs.Lists.{agree-starts}
use Rattle.octet.proofs.agree.Goals as goal

pub returns-then-starts_with : goal.returns-then-starts_with
returns-then-starts_with c =
    let o = c.args.o.now in
    let s = c.args.s.now in
    let e : starts_with eqb s o ≡ true = sym c.starts_with.ensures.value ∙ c.if-starts_with.true in
    c.if-starts_with.true ∙ sym (agree-starts o s ∙ rw e)

pub returns-else-starts_with : goal.returns-else-starts_with
returns-else-starts_with c =
    let o = c.args.o.now in
    let s = c.args.s.now in
    let e : starts_with eqb s o ≡ false = sym c.starts_with.ensures.value ∙ c.if-starts_with.false in
    c.starts_with-else-starts_with.ensures.value ∙ sym (agree-starts o s ∙ rw e)
