-- `octet::all_in` meets its contract.
use Rattle.std.proofs.Common.{rules}
use borrow.Author.Tests.{tests}
use mathlib.Core.Path.{sym, ◌∙◌}
use Rattle.octet.specs.Bytes.{between}
use Rattle.std.proofs.lemmas.Iterator.{YieldsList-from_slice}
use Rattle.std.proofs.lemmas.Iterator.Search.{all_from_yields_List}
use Rattle.octet.proofs.Lists.{all_in_list}
use Rattle.octet.proofs.all_in.Goals as goal

pub returns : goal.returns
returns c =
    let a = c.args in
    all_from_yields_List (between a.low a.high) _ _ c.all.result c.all.ensures.ran (YieldsList-from_slice a.s.now cc) (λ x b q k. search (rules, tests))
    ∙ sym (all_in_list a.low a.high a.s.now)
