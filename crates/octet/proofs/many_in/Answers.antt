-- `octet::many_in` meets its contract.
use Rattle.std.proofs.Common.{rules}
use borrow.Author.Tests.{tests}
use mathlib.Core.Path.{sym, ◌∙◌}
use mathlib.Core.Bool.{Bool, true, ◌&&◌}
use Prim.Native.Nat.{ℕ}
use lib.Dec.{leb}
use Rattle.std.proofs.lemmas.Iterator.{YieldsList-from_slice}
use Rattle.std.proofs.lemmas.Iterator.Consumers.{fold_from_yields_List}
use Rattle.octet.proofs.Lists.{all_in_fold}
use Rattle.octet.proofs.many_in.Goals as goal

pub returns : goal.returns
returns c =
    let a = c.args in
    fold_from_yields_List _ (λ (all : Bool) (b : ℕ). (all && leb a.low b) && leb b a.high) true c.fold.result c.fold.ensures.ran (YieldsList-from_slice a.s.now cc) (λ t x b q k. search (rules, tests))
    ∙ sym (all_in_fold a.low a.high a.s.now)
