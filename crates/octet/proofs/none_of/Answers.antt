-- `octet::none_of` meets its contract.
use Rattle.std.proofs.Common.{rules}
use borrow.Author.Tests.{tests}
use mathlib.Core.Path.{◌∙◌}
use mathlib.Core.Bool.{Bool, true, not, ◌&&◌}
use Prim.Native.Nat.{ℕ}
use lib.Dec.{eqb}
use Rattle.std.proofs.lemmas.Iterator.{YieldsList-from_slice}
use Rattle.std.proofs.lemmas.Iterator.Consumers.{fold_from_yields_List}
use Rattle.octet.proofs.Lists.{none-fold}
use Rattle.octet.proofs.none_of.Goals as goal

pub returns : goal.returns
returns c =
    let a = c.args in
    fold_from_yields_List _ (λ (none : Bool) (x : ℕ). none && not (eqb x a.b)) true c.fold.result c.fold.ensures.ran (YieldsList-from_slice a.s.now cc) (λ t x b q k. search (rules, tests))
    ∙ none-fold a.b a.s.now
