-- `value::like_run` meets its contract: both are gone along at once.
use Rattle.std.proofs.Common.{rules}
use borrow.Author.Tests.{tests}
use mathlib.Core.Path.{sym, ap, ◌∙◌}
use mathlib.Core.Bool.{not}
use Prim.Native.Nat.{ℕ}
use native.Mathlib.Omega.{arith}
use lib.ListN.{length}
use Rattle.std.specs.Option.{unwrap_or}
use Rattle.std.specs.List.{zip}
use Rattle.std.proofs.lemmas.Iterator.{YieldsList-from_slice, YieldsList-from_zip}
use Rattle.std.proofs.lemmas.Iterator.Search.{position_from_yields_List}
use Rattle.std.proofs.lemmas.Slice.Zip.{length-zip}
use Rattle.octet.proofs.Lists.{counted}
use Rattle.value.specs.Value.{like_byte}
use Rattle.value.proofs.Like.{like-position, like-short}
use Rattle.value.proofs.like_run.Goals as goal

pub returns : goal.returns
returns c =
    let p = c.args.pattern.now in
    let v = c.args.v.now in
    let e =
    position_from_yields_List (λ (x : ℕ × ℕ). not (like_byte x.0 x.1)) c.position.new.self _ c.position.result c.position.ensures.ran
    (YieldsList-from_zip {s = c.zip.result} (YieldsList-from_slice p cc) (YieldsList-from_slice v cc)) (λ x b q k. search (rules, tests)) in
    let l = length-zip p v in
    let n = like-position p v in
    c.unwrap_or.ensures ∙ ap (λ m. unwrap_or c.position.result m) (c.min.ensures ∙ sym l) ∙ ap (λ o. unwrap_or o (length (zip p v))) e
    ∙ counted _ (length (zip p v)) (omega (arith, like-short p v)) ∙ sym n
