-- `value::read_graph` meets its contract, by form and then by range.
use mathlib.Core.Path.{◌≡◌, refl}
use mathlib.Core.Logic.{⊎_elim}
use mathlib.Core.List.{List}
use mathlib.Core.Option.{none}
use mathlib.Core.Bool.{Bool, true}
use Prim.Native.Nat.{ℕ}
use lib.ListN.{length}
use Rattle.octet.specs.Bytes.{between, run_in}
use Rattle.octet.proofs.Lists.{is-between, is_below, is-above}
use Rattle.value.specs.Value.{bad_graph}
use Rattle.value.specs.Readers.{checked, graph_checked}
use Rattle.value.proofs.Forms.{form-short, form-well}
use Rattle.value.proofs.read_graph.Goals as goal

pub returns-then-good-v : goal.returns-then-good-v
unfolding graph_checked bad_graph
returns-then-good-v c = rw (← c.run_far-good.ensures, form-short _ _ _ c.if-good-v.true)

-- all of its bytes are in the range
ranged : (v : List ℕ) (least most good : ℕ) → good ≡ run_in 33 126 v → good ≡ length v → (fits : Bool) → between least most good ≡ fits
    → checked none fits ≡ graph_checked least most v
unfolding graph_checked bad_graph
ranged v least most good e h fits f = rw (← e, form-well v good true h refl, ← h, f) refl

pub returns-then-good-least : goal.returns-then-good-least
returns-then-good-least c =
    let a = c.args in
    ranged a.v.now a.least a.most _ c.run_far-good.ensures c.if-good-v.false _
    (⊎_elim (λ h. is_below a.least a.most _ h) (λ h. is-above a.least a.most _ h.1) c.then-good-least.either)

pub returns : goal.returns
returns c =
    let a = c.args in
    ranged a.v.now a.least a.most _ c.run_far-good.ensures c.if-good-v.false _ (is-between a.least a.most _ c.if-good-least.false c.if-most-good.false)
