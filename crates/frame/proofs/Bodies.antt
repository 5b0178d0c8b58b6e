-- What a body is: `35=`, 1 to 3 bytes that are not `|`, `|`, and what follows, all of which ends with `|`.
--     body-made     a body put together so is good
--     body-parts     a good body was so put together
--     body-long     it has 5 bytes or more
use mathlib.Core.Path.{◌≡◌, refl, sym, ◌∙◌, ap}
use mathlib.Core.List.{List, [], ◌∷◌, ◌++◌, append_assoc}
use mathlib.Core.Bool.{true, ◌&&◌}
use Prim.Native.Nat.{ℕ, suc, ◌+◌, ◌-◌, ◌≤◌, ◌<◌}
use native.Mathlib.Nat.{le_of_suc-le-suc}
use native.Mathlib.Numerals.{add-one}
use native.Mathlib.Omega.{arith}
use lib.ListN.{length, get_or, take, drop, length-append, length-drop, take-append-drop}
use lib.Seq.{get_or-append_seam, length-take-le, take-suc, take-length}
use lib.Dec.{ltb, eqb}
use borrow.Author.Tests.{ltb-true, lt-ltb, eqb-true}
use Rattle.octet.specs.Bytes.{bytes_of, between, agree, until_byte}
use Rattle.octet.proofs.Cases.{of-cond, and_both, and-make}
use Rattle.octet.proofs.Lists.{agree-begins, agree-self, between-low, between-high, is-between, until-append, drop-step}
use Rattle.frame.specs.Finding.{type_ok, body_ok}

-- a body: its type t, what follows, and what comes before its last `|`
pub record BodyParts (b t more front : List ℕ) : Type 0 where
  pub typed : b ≡ bytes_of "35=" ++ t ++ bytes_of "|" ++ more
  pub ended : b ≡ front ++ bytes_of "|"
  pub plain : until_byte 1 t ≡ length t
  pub some : 1 ≤ length t
  pub few : length t ≤ 3

pub body-made : (b t more front : List ℕ) → BodyParts b t more front → body_ok b ≡ true
unfolding body_ok
body-made b t more front p =
    let e : b ≡ bytes_of "35=" ++ (t ++ (1 ∷ more)) = p.typed ∙ simp append_assoc in
    let k : until_byte 1 (drop 3 b) ≡ length t = ap (λ (x : List ℕ). until_byte 1 (drop 3 x)) e ∙ until-append 1 t more p.plain in
    let l : length (drop 3 b) ≡ length t + (1 + length more) =
    ap (λ (x : List ℕ). length (drop 3 x)) e ∙ length-append t (1 ∷ more) ∙ omega arith in
    let size : length front + 1 ≡ length b = sym (length-append front (1 ∷ [])) ∙ ap length (sym p.ended) in
    let last : get_or b (length b - 1) 0 ≡ 1 =
    ap (λ (n : ℕ). get_or b n 0) (omega arith) ∙ ap (λ (x : List ℕ). get_or x (length front) 0) p.ended ∙ get_or-append_seam front 1 [] 0 in
    let began : agree (bytes_of "35=") b ≡ true = rw e (agree-self (bytes_of "35=") (t ++ (1 ∷ more))) in
    let type : type_ok (drop 3 b) ≡ true =
    rw k (and-make (between 1 3 (length t)) (ltb (length t) (length (drop 3 b))) (is-between 1 3 (length t) p.some p.few) (lt-ltb (length t) (length (drop 3 b)) (omega arith))) in
    rw (began, type, last)

-- ---- and back
until-take : (x : ℕ) (s : List ℕ) → until_byte x (take (until_byte x s) s) ≡ until_byte x s
until-take x [] = refl
until-take x (y ∷ s) =
    of-cond (λ (k : ℕ). until_byte x (take k (y ∷ s)) ≡ k) (eqb y x) (λ e. refl) (λ e. rw e (ap suc (until-take x s)))

until-there : (x : ℕ) (s : List ℕ) → until_byte x s < length s → get_or s (until_byte x s) 0 ≡ x
until-there x [] h = absurd (omega arith)
until-there x (y ∷ s) h =
    of-cond (λ (k : ℕ). k < suc (length s) → get_or (y ∷ s) k 0 ≡ x) (eqb y x) (λ e l. eqb-true y x e) (λ e l. until-there x s (le_of_suc-le-suc l)) h

module _ (b : List ℕ) (h : body_ok b ≡ true) where
  abbrev u : List ℕ
  u = drop 3 b

  abbrev k : ℕ
  k = until_byte 1 u

  tests : (agree (bytes_of "35=") b ≡ true) × (type_ok u ≡ true) × (eqb (get_or b (length b - 1) 0) 1 ≡ true)
  unfolding body_ok
  tests =
      let p = and_both (agree (bytes_of "35=") b && type_ok u) (eqb (get_or b (length b - 1) 0) 1) h in
      let q = and_both (agree (bytes_of "35=") b) (type_ok u) p.0 in
      (q.0, q.1, p.1)

  type : (1 ≤ k) × (k ≤ 3) × (k < length u)
  type =
      let p = and_both (between 1 3 k) (ltb k (length u)) tests.1 in
      (between-low 1 3 k p.0, between-high 1 3 k p.0, ltb-true k (length u) p.1)

  pub body-long : 5 ≤ length b
  body-long = let p = type in omega (arith, length-drop 3 b)

  pub body-parts : BodyParts b (take k u) (drop (k + 1) u) (take (length b - 1) b)
  body-parts =
      let p = type in
      let long = body-long in
      let l : length (take k u) ≡ k = length-take-le k u (omega arith) in
      let head : b ≡ bytes_of "35=" ++ u = agree-begins (bytes_of "35=") b (omega arith) tests.0 in
      let tail : u ≡ take k u ++ (1 ∷ drop (k + 1) u) =
      sym (take-append-drop k u)
      ∙ ap (λ (x : List ℕ). take k u ++ x) (drop-step u k p.2 ∙ ap (λ (x : ℕ). x ∷ drop (k + 1) u) (until-there 1 u p.2)) in
      let size : length b - 1 + 1 ≡ length b = omega arith in
      let last : take (length b - 1 + 1) b ≡ take (length b - 1) b ++ (get_or b (length b - 1) 0 ∷ []) =
      rw (add-one (length b - 1)) (take-suc b (length b - 1) 0 (omega arith)) in
      record {
        typed = head ∙ ap (λ (x : List ℕ). bytes_of "35=" ++ x) tail ∙ simp append_assoc;
        ended = sym (take-length b) ∙ ap (λ (n : ℕ). take n b) (sym size) ∙ last ∙ ap (λ (x : ℕ). take (length b - 1) b ++ (x ∷ [])) (eqb-true (get_or b (length b - 1) 0) 1 tests.2);
        plain = until-take 1 u ∙ sym l;
        some = omega arith;
        few = omega arith;
      }
