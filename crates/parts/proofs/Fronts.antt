-- Laws of a layout that has the first parts of another as they are, and none of the others (`fronts`).
--     fewer     relaid to it, the bytes are the front of what they were
--     more     relaid from it, they are what they were, and zeros
--     fronts-back     there and back nothing is lost, where what stands behind the front is zero
--     fronts-wider     no part is wider in it
use Prim.Native.Nat.{ℕ, ◌+◌, ◌-◌, ◌≤◌}
use mathlib.Core.Path.{◌≡◌, refl, sym, ap, ap₂, ◌∙◌}
use mathlib.Core.Logic.{◌⊎◌, inl, inr, ⊎_elim}
use mathlib.Core.Bool.{true, ◌&&◌}
use mathlib.Core.List.{List, [], ◌∷◌, ◌++◌, append_assoc}
use native.Mathlib.Omega.{arith}
use lib.ListN.{length, take, drop, replicate, length-drop, replicate-append-replicate}
use lib.Seq.{drop-drop, length-take-le, take-add}
use lib.Dec.{eqb}
use borrow.Author.Tests.{eqb-true}
use Rattle.octet.specs.Bytes.{sum_of, all_in}
use Rattle.octet.proofs.Cases.{bool_case, cond-false, and_both}
use Rattle.octet.proofs.Padded.{all-zero}
use Rattle.octet.proofs.Lists.{all_in-take, all_in-drop}
use Rattle.parts.specs.Relaid.{filled, relaid, fronts}
use Rattle.parts.proofs.Relaying.{zeros-front, filled-same, relaid-length, Back, Wider}

-- parts of no width
none_of : (w : ℕ) (ws : List ℕ) → w + sum_of ws ≡ 0 → (w ≡ 0) × (sum_of ws ≡ 0)
none_of w ws h = (omega arith, omega arith)

no_bytes : (x : List ℕ) → length x ≡ 0 → x ≡ []
no_bytes [] h = refl
no_bytes (b ∷ x) h = absurd (omega arith)

-- by the first of two layouts: it has no width at all, or its first part is the other's
fronts-cases : (w : ℕ) (ws : List ℕ) (v : ℕ) (vs : List ℕ) → fronts (w ∷ ws) (v ∷ vs) ≡ true → (w + sum_of ws ≡ 0) ⊎ ((w ≡ v) × (fronts ws vs ≡ true))
fronts-cases w ws v vs h =
    ⊎_elim
    (λ e. inl (eqb-true (w + sum_of ws) 0 e))
    (λ e. (let b = and_both (eqb w v) (fronts ws vs) (sym (cond-false (eqb (w + sum_of ws) 0) true (eqb w v && fronts ws vs) e) ∙ h) in inr (eqb-true w v b.0, b.1)))
    (bool_case (eqb (w + sum_of ws) 0))

-- ---- to the layout
pub fewer : (ws vs x : List ℕ) → length ws ≡ length vs → fronts ws vs ≡ true → sum_of ws ≤ length x → relaid vs ws x ≡ take (sum_of ws) x
unfolding relaid
fewer [] [] x l h r = refl
fewer [] (v ∷ vs) x l h r = absurd (omega arith)
fewer (w ∷ ws) [] x l h r = absurd (omega arith)
fewer (w ∷ ws) (v ∷ vs) x l h r =
    ⊎_elim
    (λ e. no_bytes (relaid (v ∷ vs) (w ∷ ws) x) (relaid-length (v ∷ vs) (w ∷ ws) x (sym l) ∙ e) ∙ ap (λ (n : ℕ). take n x) (sym e))
    (λ e. (let g : length (take v x) ≡ w = length-take-le v x (omega (arith, e.0)) ∙ sym e.0 in
    ap₂ (λ (a b : List ℕ). a ++ b)
    (filled-same w (take v x) g ∙ ap (λ (n : ℕ). take n x) (sym e.0))
    (ap (λ (n : ℕ). relaid vs ws (drop n x)) (sym e.0) ∙ fewer ws vs (drop w x) (omega arith) e.1 (omega (arith, length-drop w x)))
    ∙ sym (take-add w (sum_of ws) x)))
    (fronts-cases w ws v vs h)

-- ---- from the layout
blank : (ws vs x : List ℕ) → length ws ≡ length vs → sum_of ws ≡ 0 → relaid ws vs x ≡ replicate (sum_of vs) 0
unfolding relaid
blank [] [] x l h = refl
blank [] (v ∷ vs) x l h = absurd (omega arith)
blank (w ∷ ws) [] x l h = absurd (omega arith)
blank (w ∷ ws) (v ∷ vs) x l h =
    let z = none_of w ws h in
    ap₂ (λ (a b : List ℕ). a ++ b)
    (ap (λ (n : ℕ). filled v (take n x)) z.0 ∙ zeros-front v v (omega arith))
    (blank ws vs (drop w x) (omega arith) z.1)
    ∙ replicate-append-replicate v (sum_of vs) 0

pub more : (ws vs x : List ℕ) → length ws ≡ length vs → fronts ws vs ≡ true → sum_of ws ≤ length x
    → relaid ws vs x ≡ take (sum_of ws) x ++ replicate (sum_of vs - sum_of ws) 0
unfolding relaid
more [] [] x l h r = refl
more [] (v ∷ vs) x l h r = absurd (omega arith)
more (w ∷ ws) [] x l h r = absurd (omega arith)
more (w ∷ ws) (v ∷ vs) x l h r =
    ⊎_elim
    (λ e. (let n : sum_of (v ∷ vs) ≡ sum_of (v ∷ vs) - sum_of (w ∷ ws) = omega arith in
    blank (w ∷ ws) (v ∷ vs) x l e ∙ ap₂ (λ (a b : ℕ). take a x ++ replicate b 0) (sym e) n))
    (λ e. (let g : length (take w x) ≡ v = length-take-le w x (omega arith) ∙ e.0 in
    let n : sum_of vs - sum_of ws ≡ sum_of (v ∷ vs) - sum_of (w ∷ ws) = omega (arith, e.0) in
    ap₂ (λ (a b : List ℕ). a ++ b)
    (filled-same v (take w x) g)
    (more ws vs (drop w x) (omega arith) e.1 (omega (arith, length-drop w x)))
    ∙ sym (append_assoc (take w x) (take (sum_of ws) (drop w x)) (replicate (sum_of vs - sum_of ws) 0))
    ∙ ap₂ (λ (a : List ℕ) (k : ℕ). a ++ replicate k 0) (sym (take-add w (sum_of ws) x)) n))
    (fronts-cases w ws v vs h)

-- ---- there and back
blank-back : (ws vs x : List ℕ) → length ws ≡ length vs → sum_of ws ≡ 0 → sum_of vs ≤ length x → all_in 0 0 x ≡ true → Back vs ws x
blank-back [] [] x l h r z = tt
blank-back [] (v ∷ vs) x l h r z = absurd (omega arith)
blank-back (w ∷ ws) [] x l h r z = absurd (omega arith)
blank-back (w ∷ ws) (v ∷ vs) x l h r z =
    let n = none_of w ws h in
    let g : length (take v x) ≡ v = length-take-le v x (omega arith) in (
      ap (λ (k : ℕ). filled v (filled k (take v x))) n.0
          ∙ zeros-front v v (omega arith)
          ∙ ap (λ (k : ℕ). replicate k 0) (sym g)
          ∙ sym (all-zero (take v x) (all_in-take 0 0 v x z)),
      blank-back ws vs (drop v x) (omega arith) n.1 (omega (arith, length-drop v x)) (all_in-drop 0 0 v x z),
    )

pub fronts-back : (ws vs x : List ℕ) → length ws ≡ length vs → fronts ws vs ≡ true → sum_of vs ≤ length x → all_in 0 0 (drop (sum_of ws) x) ≡ true → Back vs ws x
fronts-back [] [] x l h r z = tt
fronts-back [] (v ∷ vs) x l h r z = absurd (omega arith)
fronts-back (w ∷ ws) [] x l h r z = absurd (omega arith)
fronts-back (w ∷ ws) (v ∷ vs) x l h r z =
    ⊎_elim
    (λ e. blank-back (w ∷ ws) (v ∷ vs) x l e r (ap (λ (n : ℕ). all_in 0 0 (drop n x)) (sym e) ∙ z))
    (λ e. (let g : length (take v x) ≡ v = length-take-le v x (omega arith) in
    let k : length (take v x) ≡ w = g ∙ sym e.0 in (
      ap (filled v) (filled-same w (take v x) k) ∙ filled-same v (take v x) g,
      fronts-back ws vs (drop v x) (omega arith) e.1 (omega (arith, length-drop v x))
          (ap (all_in 0 0) (drop-drop (sum_of ws) v x ∙ ap (λ (n : ℕ). drop (n + sum_of ws) x) (sym e.0)) ∙ z),
    )))
    (fronts-cases w ws v vs h)

-- ---- widths
blank-wider : (ws vs : List ℕ) → sum_of ws ≡ 0 → Wider ws vs
blank-wider [] vs h = tt
blank-wider (w ∷ ws) [] h = tt
blank-wider (w ∷ ws) (v ∷ vs) h = let z = none_of w ws h in (omega (arith, z.0), blank-wider ws vs z.1)

pub fronts-wider : (ws vs : List ℕ) → fronts ws vs ≡ true → Wider ws vs
fronts-wider [] vs h = tt
fronts-wider (w ∷ ws) [] h = tt
fronts-wider (w ∷ ws) (v ∷ vs) h =
    ⊎_elim
    (λ e. blank-wider (w ∷ ws) (v ∷ vs) e)
    (λ e. (omega (arith, e.0), fronts-wider ws vs e.1))
    (fronts-cases w ws v vs h)
