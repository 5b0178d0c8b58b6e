-- `session::reading::is_first` meets its contract.
use borrow.Author.Rules.{rules}
use borrow.Author.Tests.{ne_eqb}
use mathlib.Core.Path.{◌≡◌}
use Rattle.octet.specs.Bytes.{same}
use Rattle.session.proofs.reading.is_first.Goals as goal

pub returns-then-count-ne0 : goal.returns-then-count-ne0
returns-then-count-ne0 c =
    let e : c.eq.result ≡ same c.args.text.now c.value.result.now = search rules in
    rw (← c.count.ensures, ne_eqb _ _ c.if-count-ne0.true, ← c.value.ensures) e
