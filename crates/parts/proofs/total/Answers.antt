-- `parts::total` meets its contract.
use Rattle.std.proofs.Common.{rules}
use borrow.Author.Tests.{tests}
use mathlib.Core.Path.{refl, sym, ◌∙◌}
use mathlib.Core.List.{List}
use Prim.Native.Nat.{ℕ}
use Rattle.std.proofs.lemmas.Iterator.{YieldsList-from_slice, YieldsList-from_map}
use Rattle.std.proofs.lemmas.Iterator.Consumers.{sum_by_from_yields_List}
use Rattle.std.proofs.lemmas.List.Recursion.{is_sum_by}
use Rattle.octet.specs.Bytes.{sum_of}
use Rattle.parts.proofs.total.Goals as goal

pub returns : goal.returns
returns c =
    let ws = c.args.widths.now in
    sum_by_from_yields_List (λ (w : ℕ). w) ws c.map.result c.sum.result c.sum.ensures.ran
    (YieldsList-from_map _ (λ (w : ℕ). w) (YieldsList-from_slice ws cc) c.map.ensures.closure (λ x r q k. search (rules, tests)))
    ∙ sym (is_sum_by sum_of (λ (w : ℕ). w) refl (λ (w : ℕ) (ws : List ℕ). refl) ws)
