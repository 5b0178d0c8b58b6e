-- Laws of agreement with an opening, and of the search for the skip.
--     agree-append     an opening in two parts
--     agree-longer, agree-differs     later bytes, where the opening is there, and where a byte differs
--     to_agree-here, to_agree-next     the search, at a place
use mathlib.Core.Path.{◌≡◌, refl, sym, ap, ◌∙◌}
use mathlib.Core.List.{List, [], ◌∷◌, ◌++◌}
use mathlib.Core.Bool.{Bool, true, false, ◌&&◌, and_assoc, true≢false}
use Prim.Native.Nat.{ℕ, suc, ◌+◌, ◌≤◌, ◌<◌}
use native.Mathlib.Nat.{not-suc-le-zero, le_of_suc-le-suc}
use native.Mathlib.Numerals.{add-one}
use lib.ListN.{length, get_or, drop}
use lib.Seq.{drop-cons}
use lib.Dec.{eqb}
use Rattle.octet.specs.Bytes.{agree}
use Rattle.octet.proofs.Lists.{agree-none}
use Rattle.frame.specs.Finding.{to_agree}

pub agree-append : (o t s : List ℕ) → agree (o ++ t) s ≡ agree o s && agree t (drop (length o) s)
agree-append [] t s = refl
agree-append (x ∷ o) t [] = sym (agree-none t)
agree-append (x ∷ o) t (y ∷ s) =
    ap (◌&&◌ (eqb x y)) (agree-append o t s) ∙ sym (and_assoc (eqb x y) (agree o s) (agree t (drop (length o) s)))

pub agree-longer : (o s t : List ℕ) → length o ≤ length s → agree o (s ++ t) ≡ agree o s
agree-longer [] s t h = refl
agree-longer (x ∷ o) [] t h = absurd (not-suc-le-zero h)
agree-longer (x ∷ o) (y ∷ s) t h = ap (◌&&◌ (eqb x y)) (agree-longer o s t (le_of_suc-le-suc h))

and-false-right : (a b c : Bool) → (b ≡ false → c ≡ false) → (a && b) ≡ false → (a && c) ≡ false
and-false-right true b c f e = f e
and-false-right false b c f e = refl

pub agree-differs : (o s t : List ℕ) → agree o s ≡ false → agree o (s ++ t) ≡ false
agree-differs [] s t e = e
agree-differs (x ∷ o) [] t e = absurd (true≢false e)
agree-differs (x ∷ o) (y ∷ s) t e = and-false-right (eqb x y) (agree o s) (agree o (s ++ t)) (agree-differs o s t) e

pub to_agree-here : (o s : List ℕ) → agree o s ≡ true → to_agree o s ≡ 0
to_agree-here o [] e = refl
to_agree-here o (x ∷ s) e = rw e

to_agree-cons : (o s : List ℕ) (x : ℕ) → agree o (x ∷ s) ≡ false → to_agree o (x ∷ s) ≡ suc (to_agree o s)
to_agree-cons o s x e = rw e

pub to_agree-next : (o s : List ℕ) (p : ℕ) → p < length s → agree o (drop p s) ≡ false → to_agree o (drop p s) ≡ suc (to_agree o (drop (p + 1) s))
to_agree-next o s p h e =
    rw (add-one, drop-cons s p 0 h) (to_agree-cons o (drop (suc p) s) (get_or s p 0) (rw (drop-cons s p 0 h) at e))
