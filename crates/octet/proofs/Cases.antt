-- Case laws: `cond`, `◌&&◌`, `◌||◌`, `not`, two numbers compared, and what may be there (`or_else`, `find`, `find_last`).
use mathlib.Core.Path.{◌≡◌, refl, sym, ap, ◌∙◌, subst}
use mathlib.Core.Logic.{◌⊎◌, inl, inr, ⊎_elim}
use mathlib.Core.List.{List, [], ◌∷◌, ◌++◌}
use mathlib.Core.Option.{Option, none, some}
use mathlib.Core.Bool.{Bool, true, false, not, cond, ◌&&◌, ◌||◌}
use Prim.Native.Nat.{ℕ, zero, suc, zero-le, suc-le-suc, ◌≤◌, ◌<◌}
use lib.ListN.{drop}
use lib.Dec.{T}
use Rattle.octet.specs.Maybe.{or_else, find, find_last}

-- ---- a test is one or the other, and never both
pub bool_case : (t : Bool) → (t ≡ true) ⊎ (t ≡ false)
bool_case true = inl refl
bool_case false = inr refl

pub true-not-false : {A : Type 0} → true ≡ false → A
true-not-false e = absurd (subst T e tt)

-- a test that holds and does not
pub contrary : {A : Type 0} {t : Bool} → t ≡ true → t ≡ false → A
contrary p q = true-not-false (sym p ∙ q)

pub not-true-false : (t : Bool) → (t ≡ true → ⊥) → t ≡ false
not-true-false true h = absurd (h refl)
not-true-false false h = refl

-- two tests that hold together are one
pub bool-ext : (p q : Bool) → (p ≡ true → q ≡ true) → (q ≡ true → p ≡ true) → p ≡ q
bool-ext true q f g = sym (f refl)
bool-ext false true f g = g refl
bool-ext false false f g = refl

-- ---- cond
-- whatever holds of both cases holds of the choice
pub of-cond : {A : Type 0} (P : A → Type 0) (t : Bool) {a b : A} → (t ≡ true → P a) → (t ≡ false → P b) → P (cond t a b)
of-cond P true f g = f refl
of-cond P false f g = g refl

module _ {A : Type 0} where
  pub cond-true : (t : Bool) (a b : A) → t ≡ true → cond t a b ≡ a
  cond-true t a b e = rw e

  pub cond-false : (t : Bool) (a b : A) → t ≡ false → cond t a b ≡ b
  cond-false t a b e = rw e

  pub cond_same : (t : Bool) (a : A) → cond t a a ≡ a
  cond_same true a = refl
  cond_same false a = refl

  pub cond-and : (p q : Bool) (a b : A) → cond (p && q) a b ≡ cond p (cond q a b) b
  cond-and true q a b = refl
  cond-and false q a b = refl

  pub cond-or : (p q : Bool) (a b : A) → cond (p || q) a b ≡ cond p a (cond q a b)
  cond-or true q a b = refl
  cond-or false q a b = refl

  pub cond-not : (t : Bool) (a b : A) → cond (not t) a b ≡ cond t b a
  cond-not true a b = refl
  cond-not false a b = refl

-- a function of a choice is the choice of its values
pub ap-cond : {A B : Type 0} (f : A → B) (t : Bool) (a b : A) → f (cond t a b) ≡ cond t (f a) (f b)
ap-cond f true a b = refl
ap-cond f false a b = refl

-- ---- and
pub and_both : (p q : Bool) → p && q ≡ true → (p ≡ true) × (q ≡ true)
and_both true q e = (refl, e)
and_both false q e = (e, true-not-false (sym e))

pub and_left : (p q : Bool) → p && q ≡ true → p ≡ true
and_left p q e = (and_both p q e).0

pub and_right : (p q : Bool) → p && q ≡ true → q ≡ true
and_right p q e = (and_both p q e).1

pub and-make : (p q : Bool) → p ≡ true → q ≡ true → p && q ≡ true
and-make p q e f = rw (e, f)

pub and-no-left : (p q : Bool) → p ≡ false → p && q ≡ false
and-no-left p q e = rw e

pub and-no-right : (p q : Bool) → q ≡ false → p && q ≡ false
and-no-right true q e = e
and-no-right false q e = refl

pub and-fails : (p q : Bool) → p && q ≡ false → (p ≡ false) ⊎ (q ≡ false)
and-fails true q e = inr e
and-fails false q e = inl refl

-- ---- or
pub or_cases : (p q : Bool) → p || q ≡ true → (p ≡ true) ⊎ (q ≡ true)
or_cases true q e = inl refl
or_cases false q e = inr e

pub or_left : (p q : Bool) → p ≡ true → p || q ≡ true
or_left p q e = rw e

pub or_right : (p q : Bool) → q ≡ true → p || q ≡ true
or_right true q e = refl
or_right false q e = e

pub or-neither : (p q : Bool) → p || q ≡ false → (p ≡ false) × (q ≡ false)
or-neither true q e = true-not-false e
or-neither false q e = (refl, e)

pub or-none : (p q : Bool) → p ≡ false → q ≡ false → p || q ≡ false
or-none p q e f = rw (e, f)

-- ---- two numbers compared, to go by cases
pub le-or-lt : (a b : ℕ) → (a ≤ b) ⊎ (b < a)
le-or-lt zero b = inl zero-le
le-or-lt (suc a) zero = inr (suc-le-suc zero-le)
le-or-lt (suc a) (suc b) = ⊎_elim (λ p. inl (suc-le-suc p)) (λ q. inr (suc-le-suc q)) (le-or-lt a b)

-- ---- what may be there
module _ {A : Type 0} where
  pub or_else-none : (o : Option A) → or_else o none ≡ o
  or_else-none none = refl
  or_else-none (some a) = refl

  pub or_else-neither : (o p : Option A) → or_else o p ≡ none → (o ≡ none) × (p ≡ none)
  or_else-neither none p e = (refl, e)
  or_else-neither (some a) p e = (e, cc)

  pub or_else-assoc : (o p q : Option A) → or_else (or_else o p) q ≡ or_else o (or_else p q)
  or_else-assoc none p q = refl
  or_else-assoc (some a) p q = refl

  pub find-append : (p : A → Bool) (xs ys : List A) → find p (xs ++ ys) ≡ or_else (find p xs) (find p ys)
  find-append p [] ys = refl
  find-append p (x ∷ xs) ys =
      ap (cond (p x) (some x)) (find-append p xs ys) ∙ sym (ap-cond (λ (o : Option A). or_else o (find p ys)) (p x) (some x) (find p xs))

  pub find-here : (p : A → Bool) (x : A) (xs : List A) → p x ≡ true → find p (x ∷ xs) ≡ some x
  find-here p x xs e = rw e

  pub find-later : (p : A → Bool) (x : A) (xs : List A) → p x ≡ false → find p (x ∷ xs) ≡ find p xs
  find-later p x xs e = rw e

  -- what is found passes the test
  pub find-passes : (p : A → Bool) (xs : List A) (a : A) → find p xs ≡ some a → p a ≡ true
  find-passes p [] a e = cc
  find-passes p (x ∷ xs) a e =
      of-cond (λ (o : Option A). o ≡ some a → p a ≡ true) (p x) (λ h f. (let g : x ≡ a = cc in ap p (sym g) ∙ h)) (λ h f. find-passes p xs a f) e

  -- the last that passes
  pub last-append : (p : A → Bool) (xs ys : List A) → find_last p (xs ++ ys) ≡ or_else (find_last p ys) (find_last p xs)
  last-append p [] ys = sym (or_else-none (find_last p ys))
  last-append p (x ∷ xs) ys =
      let here = cond (p x) (some x) none in
      ap (λ (o : Option A). or_else o here) (last-append p xs ys) ∙ or_else-assoc (find_last p ys) (find_last p xs) here

  pub last-other : (p : A → Bool) (x : A) (xs : List A) → p x ≡ false → find_last p (x ∷ xs) ≡ find_last p xs
  last-other p x xs e = ap (or_else (find_last p xs)) (cond-false (p x) (some x) none e) ∙ or_else-none (find_last p xs)

  pub last-only : (p : A → Bool) (x : A) (xs : List A) → p x ≡ true → find_last p xs ≡ none → find_last p (x ∷ xs) ≡ some x
  last-only p x xs e n = ap (λ (o : Option A). or_else o (cond (p x) (some x) none)) n ∙ cond-true (p x) (some x) none e

  -- found among those at the end, it is found among all
  pub last-drop : (p : A → Bool) (n : ℕ) (xs : List A) (a : A) → find_last p (drop n xs) ≡ some a → find_last p xs ≡ some a
  last-drop p zero xs a e = e
  last-drop p (suc n) [] a e = e
  last-drop p (suc n) (x ∷ xs) a e = ap (λ (o : Option A). or_else o (cond (p x) (some x) none)) (last-drop p n xs a e)

  -- where there is no last there is no first
  pub last_none : (p : A → Bool) (xs : List A) → find_last p xs ≡ none → find p xs ≡ none
  last_none p [] e = refl
  last_none p (x ∷ xs) e =
      let n = or_else-neither (find_last p xs) (cond (p x) (some x) none) e in
      ⊎_elim
      (λ h. (let f = sym (cond-true (p x) (some x) none h) ∙ n.1 in cc))
      (λ h. find-later p x xs h ∙ last_none p xs n.0)
      (bool_case (p x))
