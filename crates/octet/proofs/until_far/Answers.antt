-- `octet::until_far` meets its contract: what is passed over holds none, and what is left holds the rest.
use mathlib.Core.Path.{◌≡◌, sym, ap, ◌∙◌}
use mathlib.Core.Bool.{true, not}
use mathlib.Core.List.{List}
use Prim.Native.Nat.{ℕ}
use native.Mathlib.Omega.{arith}
use lib.Dec.{eqb}
use lib.ListN.{take, length-drop}
use Rattle.std.specs.List.{list_any}
use Rattle.octet.proofs.Lists.{part-rest, until-most, until-past}
use Rattle.octet.proofs.until_far.Goals as goal

pub loop-many-preserved : goal.loop-many-preserved
loop-many-preserved c =
    let a = c.args in
    let rest = c.loop-many.rest.now in
    let cut = c.in-Some.ensures.cases in
    let e : not (list_any (λ (x : ℕ). eqb x a.b) (take 16 rest)) ≡ true = ap (λ (l : List ℕ). not (list_any (λ (x : ℕ). eqb x a.b) l)) (sym cut.same) ∙ sym c.none_of.ensures ∙ c.if-none_of.true in
    let p = until-past a.b 16 rest cut.enough e in
    let l = length-drop 16 rest in
    rw (part-rest rest 16) (omega (arith, l), omega (arith, p, l))

pub overflow_add-result : goal.overflow_add-result
overflow_add-result c =
    let a = c.args in
    omega (arith, c.until.ensures, until-most a.b a.s.now)
