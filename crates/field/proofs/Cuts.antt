-- The pieces of a body, one by one.
--     pieces-cut     the first piece is what stands before the first `|`, the others are those of what follows it
--     pieces-mark     the same of a piece, its `|` and what follows
--     stepped, rest_end     the walk from piece to piece
--     value-at     a value stands where it is said to stand
--     count_at_lem, scan-at     the count and the scan, from piece to piece
use Rattle.std.specs.Prelude.{Ok, Err, None}
use mathlib.Core.Path.{◌≡◌, refl, ap, sym, ◌∙◌}
use mathlib.Core.Logic.{⊎_elim}
use mathlib.Core.Bool.{Bool, true, false, cond}
use mathlib.Core.List.{List, [], ◌∷◌, ◌++◌}
use Prim.Native.Nat.{ℕ, suc, ◌+◌, ◌-◌, ◌≤◌, ◌<◌, min}
use native.Mathlib.Omega.{arith}
use lib.ListN.{length, take, drop, length-drop}
use lib.Seq.{drop-drop}
use lib.Dec.{eqb}
use borrow.Author.Tests.{eq-eqb, ne_eqb, lt-ltb, le-ltb}
use Rattle.octet.specs.Bytes.{part, until_byte}
use Rattle.octet.specs.Maybe.{unless, first}
use Rattle.octet.proofs.Cases.{le-or-lt}
use Rattle.octet.proofs.Lists.{drop-done, length_part, part-drop, until-most, drop-take}
use Rattle.text.specs.Decimal.{digit_run}
use Rattle.field.specs.Pieces.{Pieces, on_first, pieces_of, tagged, tag_of, value_after, valued, carries, values_of, text_at, piece_scan, Scan, sound, scan_of, and_then}
use Rattle.field.specs.Stands.{Piece, field, rest_at, Place, At, Missing, piece_at, located, or_here, place_from, place_of, step_of, piece_fault, hits}
use Rattle.field.specs.declared.Unsound.TheVariants.{Malformed, Empty}
use Rattle.field.specs.declared.Step.{Step}

-- ---- the first piece and the others
pub pieces-cut : (s : List ℕ) → 0 < length s → pieces_of s ≡ take (until_byte 1 s) s ∷ pieces_of (drop (suc (until_byte 1 s)) s)
unfolding pieces_of
pieces-cut [] h = absurd (omega arith)
pieces-cut (b ∷ []) h = by (eqb b 1)
  where
    by : (t : Bool) → cond t ([] ∷ []) (on_first b []) ≡ take (cond t 0 1) (b ∷ []) ∷ pieces_of (drop (suc (cond t 0 1)) (b ∷ []))
    by true = refl
    by false = refl
pieces-cut (b ∷ c ∷ s) h = by (eqb b 1) (pieces-cut (c ∷ s) (omega arith))
  where
    by : (t : Bool) → pieces_of (c ∷ s) ≡ take (until_byte 1 (c ∷ s)) (c ∷ s) ∷ pieces_of (drop (suc (until_byte 1 (c ∷ s))) (c ∷ s))
        → cond t ([] ∷ pieces_of (c ∷ s)) (on_first b (pieces_of (c ∷ s)))
        ≡ take (cond t 0 (suc (until_byte 1 (c ∷ s)))) (b ∷ c ∷ s) ∷ pieces_of (drop (suc (cond t 0 (suc (until_byte 1 (c ∷ s))))) (b ∷ c ∷ s))
    by true e = refl
    by false e = ap (on_first b) e

pub pieces-mark : (a b : List ℕ) → until_byte 1 a ≡ length a → pieces_of (a ++ 1 ∷ b) ≡ a ∷ pieces_of b
unfolding pieces_of
pieces-mark [] b e = refl
pieces-mark (x ∷ a) b e = by (eqb x 1) refl (pieces-mark a b)
  where
    by : (t : Bool) → eqb x 1 ≡ t → (until_byte 1 a ≡ length a → pieces_of (a ++ 1 ∷ b) ≡ a ∷ pieces_of b)
        → cond t ([] ∷ pieces_of (a ++ 1 ∷ b)) (on_first x (pieces_of (a ++ 1 ∷ b))) ≡ (x ∷ a) ∷ pieces_of b
    by true q ih = absurd (let z : 0 ≡ suc (length a) = rw q at e in omega arith)
    by false q ih = ap (on_first x) (ih (let z : suc (until_byte 1 a) ≡ suc (length a) = rw q at e in omega arith))

-- the pieces from a place on: the first ends before its `|`, the others begin after it
pub record Cut (body : List ℕ) (i : ℕ) (p : List ℕ) (ps : Pieces) : Type 0 where
  pub here : p ≡ part i (length p) body
  pub later : ps ≡ pieces_of (drop (i + length p + 1) body)

pub cut : (body : List ℕ) (i : ℕ) (p : List ℕ) (ps : Pieces) → pieces_of (drop i body) ≡ p ∷ ps → Cut body i p ps
unfolding pieces_of
cut body i p ps e = by (drop i body) refl
  where
    by : (s : List ℕ) → drop i body ≡ s → Cut body i p ps
    by [] q = absurd (let z : [] ≡ p ∷ ps = ap pieces_of (sym q) ∙ e in let o : ◌≡◌ {A = ℕ} 0 1 = cc in omega arith)
    by (b ∷ t) q =
        let s = b ∷ t in
        let n = until_byte 1 s in
        let c : p ∷ ps ≡ take n s ∷ pieces_of (drop (suc n) s) = sym e ∙ ap pieces_of q ∙ pieces-cut s (omega arith) in
        let f : p ≡ take n s = cc in
        let g : ps ≡ pieces_of (drop (suc n) s) = cc in
        let l : length p ≡ n = ap length f ∙ length_part 0 n s (omega (arith, until-most 1 s)) in
        let k : i + suc n ≡ i + length p + 1 = omega arith in
        record {
          here = f ∙ ap (take n) (sym q) ∙ ap (λ (m : ℕ). part i m body) (sym l);
          later = g ∙ ap (λ (u : List ℕ). pieces_of (drop (suc n) u)) (sym q) ∙ ap pieces_of (drop-drop (suc n) i body) ∙ ap (λ (m : ℕ). pieces_of (drop m body)) k;
        }

-- ---- the walk
pub rest_end : (body : List ℕ) (i : ℕ) → length body ≤ i → rest_at body i ≡ []
unfolding located pieces_of
rest_end body i h = rw (drop-done body i h)

rest-min : (body : List ℕ) (j : ℕ) → rest_at body j ≡ rest_at body (min j (length body))
rest-min body j =
    ⊎_elim
    (λ (h : j ≤ length body). (let e : j ≡ min j (length body) = omega arith in ap (rest_at body) e))
    (λ (h : length body < j). rest_end body j (omega arith) ∙ sym (rest_end body (min j (length body)) (omega arith)))
    (le-or-lt j (length body))

rest-step : (body : List ℕ) (i : ℕ) → i < length body → rest_at body i ≡ (step_of i body).piece ∷ rest_at body (step_of i body).next
unfolding located step_of
rest-step body i h =
    let s = drop i body in
    let n = until_byte 1 s in
    let e = pieces-cut s (omega (arith, length-drop i body)) in
    let c = cut body i (take n s) (pieces_of (drop (suc n) s)) e in
    let l : length (take n s) ≡ n = length_part 0 n s (omega (arith, until-most 1 s)) in
    ap (located i) (e ∙ ap (λ (ps : Pieces). take n s ∷ ps) c.later)
    ∙ ap (λ (m : ℕ). piece_at i (take n s) ∷ rest_at body (i + m + 1)) l
    ∙ ap (λ (gs : List Piece). piece_at i (take n s) ∷ gs) (rest-min body (i + n + 1))

-- a step of the walk: the piece, and the pieces after it
pub stepped : (body : List ℕ) (i : ℕ) {r : Step} → i < length body → r ≡ step_of i body → rest_at body i ≡ r.piece ∷ rest_at body r.next
stepped body i h e = rest-step body i h ∙ ap (λ (x : Step). x.piece ∷ rest_at body x.next) (sym e)

-- ---- a value stands where it is said to stand
abbrev pub part_by : List ℕ → Place → List ℕ
part_by body Missing = []
part_by body (At s n) = part s n body

value-stands : (body : List ℕ) (i k : ℕ) (p : List ℕ) → p ≡ part i (length p) body → part (i + k) (length p - k) body ≡ drop k p
value-stands body i k p e =
    sym (part-drop i k (length p - k) body) ∙ sym (drop-take k (length p) (drop i body)) ∙ ap (drop k) (sym e)

module _ (tag : ℕ) where
  place-or : (at : ℕ) (p : List ℕ) (later : Place) (t : Bool) → tagged p ≡ t
      → or_here tag (piece_at at p) later ≡ cond (carries tag p) (At (at + (digit_run p + 1)) (length p - (digit_run p + 1))) later
  unfolding piece_at carries
  place-or at p later true e = rw (e)
  place-or at p later false e = rw (e)

  value-from : (body : List ℕ) (ps : Pieces) (i : ℕ) → pieces_of (drop i body) ≡ ps → part_by body (place_from tag (located i ps)) ≡ text_at tag ps
  unfolding place_from located values_of
  value-from body [] i e = refl
  value-from body (p ∷ ps) i e =
      let c = cut body i p ps e in
      ap (part_by body) (place-or i p (place_from tag (located (i + length p + 1) ps)) (tagged p) refl)
      ∙ by (carries tag p) (value-stands body i (digit_run p + 1) p c.here) (value-from body ps (i + length p + 1) (sym c.later))
    where
      by : (t : Bool) → part (i + (digit_run p + 1)) (length p - (digit_run p + 1)) body ≡ value_after p
          → part_by body (place_from tag (located (i + length p + 1) ps)) ≡ text_at tag ps
          → part_by body (cond t (At (i + (digit_run p + 1)) (length p - (digit_run p + 1))) (place_from tag (located (i + length p + 1) ps)))
          ≡ unless [] (first (cond t (value_after p ∷ values_of tag ps) (values_of tag ps)))
      by true f g = f
      by false f g = g

  pub value-at : (body : List ℕ) → part_by body (place_of tag body) ≡ text_at tag (pieces_of body)
  unfolding place_of
  value-at body = value-from body (pieces_of body) 0 refl

  -- ---- how often it stands
  abbrev pub hits_in : List Piece → ℕ
  hits_in [] = 0
  hits_in (g ∷ gs) = hits tag g + hits_in gs

  pub hits-piece : (at : ℕ) (p : List ℕ) (t : Bool) → tagged p ≡ t → hits tag (piece_at at p) ≡ cond (carries tag p) 1 0
  unfolding piece_at carries
  hits-piece at p true e = rw (e)
  hits-piece at p false e = rw (e)

  pub count_at_lem : (at : ℕ) (ps : Pieces) → length (values_of tag ps) ≡ hits_in (located at ps)
  unfolding located values_of
  count_at_lem at [] = refl
  count_at_lem at (p ∷ ps) =
      by (carries tag p) (count_at_lem (at + length p + 1) ps) ∙ ap (λ (n : ℕ). n + hits_in (located (at + length p + 1) ps)) (sym (hits-piece at p (tagged p) refl))
    where
      by : (t : Bool) → length (values_of tag ps) ≡ hits_in (located (at + length p + 1) ps)
          → length (cond t (value_after p ∷ values_of tag ps) (values_of tag ps)) ≡ cond t 1 0 + hits_in (located (at + length p + 1) ps)
      by true e = omega arith
      by false e = omega arith

-- ---- the scan
abbrev pub scan_in : List Piece → Scan
scan_in [] = sound
scan_in (g ∷ gs) = and_then (piece_fault g) (scan_in gs)

pub and-then-sound : (a : Scan) → and_then a sound ≡ a
and-then-sound (Ok tt) = refl
and-then-sound (Err e) = refl

pub and-then-assoc : (a b c : Scan) → and_then (and_then a b) c ≡ and_then a (and_then b c)
and-then-assoc (Ok _) b c = refl
and-then-assoc (Err e) b c = refl

valued_by : (p : List ℕ) (u : ℕ) → cond (valued p) sound (Err (Empty u)) ≡ cond (eqb (length p - (digit_run p + 1)) 0) (Err (Empty u)) sound
valued_by p u =
    ⊎_elim
    (λ (h : length p ≤ digit_run p + 1). rw (le-ltb _ _ h, eq-eqb (length p - (digit_run p + 1)) 0 (omega arith)))
    (λ (h : digit_run p + 1 < length p). rw (lt-ltb _ _ h, ne_eqb (length p - (digit_run p + 1)) 0 (λ z. omega arith)))
    (le-or-lt (length p) (digit_run p + 1))

pub fault-piece : (at : ℕ) (p : List ℕ) → piece_scan p ≡ piece_fault (piece_at at p)
unfolding piece_scan piece_at
fault-piece at p = by (tagged p)
  where
    by : (t : Bool) → cond t (cond (valued p) sound (Err (Empty (tag_of p)))) (Err Malformed) ≡ piece_fault (cond t (field (tag_of p) (at + (digit_run p + 1)) (length p - (digit_run p + 1))) None)
    by true = valued_by p (tag_of p)
    by false = refl

pub scan-at : (at : ℕ) (ps : Pieces) → scan_of ps ≡ scan_in (located at ps)
unfolding located scan_of
scan-at at [] = refl
scan-at at (p ∷ ps) = rw (fault-piece at p, scan-at (at + length p + 1) ps)
