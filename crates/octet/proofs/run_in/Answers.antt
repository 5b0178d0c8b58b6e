-- `octet::run_in` meets its contract.
use Rattle.std.proofs.Common.{rules}
use borrow.Author.Tests.{tests}
use mathlib.Core.Path.{◌≡◌, sym, ap, ◌∙◌}
use Prim.Native.Nat.{ℕ}
use native.Mathlib.Omega.{arith}
use lib.ListN.{length}
use mathlib.Core.Bool.{not}
use Rattle.octet.specs.Bytes.{between}
use Rattle.std.specs.Option.{unwrap_or}
use Rattle.std.specs.List.{position}
use Rattle.std.proofs.lemmas.Iterator.{YieldsList-from_slice}
use Rattle.std.proofs.lemmas.Iterator.Search.{position_from_yields_List}
use Rattle.octet.proofs.Lists.{run_position, run-most, counted}
use Rattle.octet.proofs.run_in.Goals as goal

pub returns : goal.returns
returns c =
    let a = c.args in
    let s = a.s.now in
    let e : c.position.result ≡ position (λ (b : ℕ). not (between a.low a.high b)) s =
    position_from_yields_List (λ (b : ℕ). not (between a.low a.high b)) _ _ c.position.result c.position.ensures.ran (YieldsList-from_slice s cc) (λ x b q k. search (rules, tests)) in
    let u = run_position a.low a.high s in
    c.unwrap_or.ensures
    ∙ ap (λ o. unwrap_or o (length s)) e
    ∙ counted _ (length s) (omega (arith, u, run-most a.low a.high s))
    ∙ sym u
