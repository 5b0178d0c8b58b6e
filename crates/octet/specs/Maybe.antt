-- What may be there: the first of two, what stands in, and the first and the last of a list that passes a test.
use Rattle.std.specs.Prelude.{List, [], ◌∷◌, Bool, true, false, cond}
use Rattle.std.proofs.Math.Option.{Option, none, some}

-- the first that is there
abbrev pub or_else : {A : Type 0} → Option A → Option A → Option A
or_else none q = q
or_else (some a) q = some a

abbrev pub is_none : {A : Type 0} → Option A → Bool
is_none none = true
is_none (some a) = false

-- what is there, or a
abbrev pub unless : {A : Type 0} → A → Option A → A
unless a none = a
unless a (some b) = b

-- the first of a list
abbrev pub first : {A : Type 0} → List A → Option A
first [] = none
first (x ∷ xs) = some x

-- the first of a list that passes a test
abbrev pub find : {A : Type 0} → (A → Bool) → List A → Option A
find p [] = none
find p (x ∷ xs) = let rest = find p xs in cond (p x) (some x) rest

-- the last of a list that passes a test
abbrev pub find_last : {A : Type 0} → (A → Bool) → List A → Option A
find_last p [] = none
find_last p (x ∷ xs) = or_else (find_last p xs) (cond (p x) (some x) none)
