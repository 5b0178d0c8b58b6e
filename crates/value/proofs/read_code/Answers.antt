-- `value::read_code` meets its contract, by its tests.
use mathlib.Core.Path.{◌≡◌, refl, sym, ap, ◌∙◌}
use mathlib.Core.List.{List, [], ◌∷◌}
use mathlib.Core.Bool.{Bool, true, false, ◌||◌}
use Prim.Native.Nat.{ℕ}
use native.Mathlib.Omega.{arith}
use lib.ListN.{length, get_or}
use lib.Dec.{eqb}
use borrow.Author.Tests.{eq-eqb, ne_eqb}
use Rattle.std.specs.List.{list_any}
use Rattle.value.specs.Value.{among}
use Rattle.value.specs.Readers.{code_checked}
use Rattle.value.proofs.read_code.Goals as goal

any-among : (codes : List ℕ) (b : ℕ) → list_any (λ (y : ℕ). eqb y b) codes ≡ among codes b
any-among [] b = refl
any-among (x ∷ codes) b = ap (λ (t : Bool). eqb x b || t) (any-among codes b)

pub returns-in-len1 : goal.returns-in-len1
unfolding code_checked
returns-in-len1 c =
    let v = c.args.v.now in
    let a : among c.args.codes.now (get_or v 0 0) ≡ true = sym (c.contains.ensures.value ∙ any-among c.args.codes.now (get_or v 0 0)) ∙ c.if-contains.true in
    simp (eq-eqb (length v) 1 (omega arith), a)

pub returns-in_default : goal.returns-in_default
unfolding code_checked
returns-in_default c = simp (ne_eqb (length c.args.v.now) 1 (λ e. omega arith))

pub returns-in_default-2 : goal.returns-in_default-2
unfolding code_checked
returns-in_default-2 c =
    let v = c.args.v.now in
    let a : among c.args.codes.now (get_or v 0 0) ≡ false = sym (c.contains.ensures.value ∙ any-among c.args.codes.now (get_or v 0 0)) ∙ c.if-contains.false in
    simp (eq-eqb (length v) 1 (omega arith), a)

pub returns-in_default-3 : goal.returns-in_default-3
unfolding code_checked
returns-in_default-3 c = simp (ne_eqb (length c.args.v.now) 1 (λ e. omega arith))
