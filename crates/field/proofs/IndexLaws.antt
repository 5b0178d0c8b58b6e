-- One pass fills the index.
--     pass_on, filled     a step of the pass, and that the list which it leaves is the definition's
--     column-of-index     what the index has of a listed tag
use Rattle.std.specs.Prelude.{None, Some}
use mathlib.Core.Path.{◌≡◌, refl, ap, sym, ◌∙◌}
use mathlib.Core.Bool.{Bool, true, false, cond, not, ◌&&◌}
use mathlib.Core.List.{List, [], ◌∷◌, map}
use Prim.Native.Nat.{ℕ, zero, suc, ◌+◌, ◌<◌, min}
use native.Mathlib.Omega.{arith}
use native.Mathlib.Nat.{zero-add}
use lib.ListN.{length, get_or, set, replicate, length-set, length-map, length-replicate, get_or-replicate}
use lib.Seq.{get_or-set_same, get_or-set_other, ext_get_or}
use lib.Dec.{eqb, ltb}
use borrow.Author.Tests.{eqb-true, eqb-false, lt-ltb, eq-eqb, ne_eqb, not-true}
use Rattle.octet.proofs.Cases.{and_both}
use Rattle.field.specs.Pieces.{pieces_of, count_of}
use Rattle.field.specs.Stands.{Piece, At, located, place_from, place_of}
use Rattle.field.specs.Index.{listed, column_count, position, column_of, start_in, len_in, column, unseen, column_at, told_of, more, index_of, noted_at, noted}
use Rattle.field.specs.declared.Column.{Column}
use Rattle.field.proofs.Cuts.{hits_in, count_at_lem}

-- ---- each listed tag has a column of its own

at-step : (t u p : ℕ) (ts : List ℕ) (b : Bool) → eqb u t ≡ b → (p < length ts → get_or ts p 0 ≡ u)
    → cond b 0 (suc p) < suc (length ts) → get_or (t ∷ ts) (cond b 0 (suc p)) 0 ≡ u
at-step t u p ts true e ih h = sym (eqb-true u t e)
at-step t u p ts false e ih h = ih (omega arith)

-- what stands at a number's position is that number
at_position : (ts : List ℕ) (u : ℕ) → position ts u < length ts → get_or ts (position ts u) 0 ≡ u
unfolding position
at_position [] u h = omega arith
at_position (t ∷ ts) u h = at-step t u (position ts u) ts (eqb u t) refl (at_position ts u) h

abbrev absent : ℕ → List ℕ → Bool
absent t [] = true
absent t (u ∷ us) = not (eqb u t) && absent t us

abbrev distinct : List ℕ → Bool
distinct [] = true
distinct (t ∷ ts) = absent t ts && distinct ts

absent-at : (t : ℕ) (ts : List ℕ) (k : ℕ) → absent t ts ≡ true → k < length ts → eqb (get_or ts k 0) t ≡ false
absent-at t [] k e h = absurd (omega arith)
absent-at t (u ∷ us) zero e h = not-true (eqb u t) (and_both (not (eqb u t)) (absent t us) e).0
absent-at t (u ∷ us) (suc k) e h = absent-at t us k (and_both (not (eqb u t)) (absent t us) e).1 (omega arith)

-- in a list without repeats the position of what stands at k is k
position_at : (ts : List ℕ) (k : ℕ) → distinct ts ≡ true → k < length ts → position ts (get_or ts k 0) ≡ k
unfolding position
position_at [] k e h = absurd (omega arith)
position_at (t ∷ ts) zero e h = rw (eq-eqb t t refl)
position_at (t ∷ ts) (suc k) e h =
    let d = and_both (absent t ts) (distinct ts) e in
    rw (absent-at t ts k d.0 (omega arith)) (ap suc (position_at ts k d.1 (omega arith)))

size : length listed ≡ column_count
unfolding listed
size = refl

no-repeats : distinct listed ≡ true
unfolding listed
no-repeats = refl

column-tag : (t : ℕ) → column_of t < column_count → get_or listed (column_of t) 0 ≡ t
unfolding column_of
column-tag t h = at_position listed t (omega (arith, size))

column-own : (t u : ℕ) → column_of t < column_count → column_of t ≡ column_of u → u ≡ t
column-own t u h e = sym (column-tag u (omega arith)) ∙ ap (λ (k : ℕ). get_or listed k 0) (sym e) ∙ column-tag t h

column-at : (k : ℕ) → k < column_count → column_of (get_or listed k 0) ≡ k
unfolding column_of
column-at k h = position_at listed k no-repeats (omega (arith, size))

-- ---- one column: its first field is kept, a second and a third are counted as 2

abbrev marked : ℕ → Column → Piece → Column
marked t z None = z
marked t z (Some f) = cond (eqb f.tag t) (more z f.start f.len) z

abbrev marked_by : ℕ → Column → List Piece → Column
marked_by t z [] = z
marked_by t z (g ∷ gs) = marked_by t (marked t z g) gs

module _ (t : ℕ) where
  -- once there is a first field it stays
  marked_more : (s n c : ℕ) (gs : List Piece) → marked_by t (column s n (suc c)) gs ≡ column s n (cond (eqb (hits_in t gs) 0) (suc c) 2)
  marked_more s n c [] = refl
  marked_more s n c (None ∷ gs) = rw (zero-add (hits_in t gs)) (marked_more s n c gs)
  marked_more s n c (Some f ∷ gs) = rw (ne_eqb (suc c) 0 (λ z. omega arith)) (by (eqb f.tag t) (marked_more s n 1 gs) (marked_more s n c gs))
    where
      by : (q : Bool) → marked_by t (column s n 2) gs ≡ column s n (cond (eqb (hits_in t gs) 0) 2 2)
          → marked_by t (column s n (suc c)) gs ≡ column s n (cond (eqb (hits_in t gs) 0) (suc c) 2)
          → marked_by t (cond q (column s n 2) (column s n (suc c))) gs ≡ column s n (cond (eqb (cond q 1 0 + hits_in t gs) 0) (suc c) 2)
      by true i j = i ∙ either (eqb (hits_in t gs) 0) ∙ rw (ne_eqb (1 + hits_in t gs) 0 (λ z. omega arith))
        where
          either : (v : Bool) → column s n (cond v 2 2) ≡ column s n 2
          either true = refl
          either false = refl
      by false i j = rw (zero-add (hits_in t gs)) j

  marked_all : (gs : List Piece) → marked_by t (column 0 0 0) gs ≡ column (start_in (place_from t gs)) (len_in (place_from t gs)) (min 2 (hits_in t gs))
  unfolding place_from
  marked_all [] = refl
  marked_all (None ∷ gs) = rw (zero-add (hits_in t gs)) (marked_all gs)
  marked_all (Some f ∷ gs) = by (eqb f.tag t) (marked_all gs)
    where
      count : (m : ℕ) → cond (eqb m 0) 1 2 ≡ min 2 (1 + m)
      count zero = refl
      count (suc m) = rw (ne_eqb (suc m) 0 (λ z. omega arith)) (omega arith)

      by : (q : Bool) → marked_by t (column 0 0 0) gs ≡ column (start_in (place_from t gs)) (len_in (place_from t gs)) (min 2 (hits_in t gs))
          → marked_by t (cond q (column f.start f.len 1) (column 0 0 0)) gs
          ≡ column (start_in (cond q (At f.start f.len) (place_from t gs))) (len_in (cond q (At f.start f.len) (place_from t gs))) (min 2 (cond q 1 0 + hits_in t gs))
      by true i = marked_more f.start f.len 0 gs ∙ ap (column f.start f.len) (count (hits_in t gs))
      by false i = rw (zero-add (hits_in t gs)) i

-- ---- the index keeps its length, and a field goes to its tag's column and to no other

abbrev Sized : List Column → Type 0
Sized x = length x ≡ column_count

sized : (x : List Column) (g : Piece) → Sized x → Sized (noted x g)
unfolding noted noted_at
sized x None z = z
sized x (Some f) z = by (ltb (column_of f.tag) column_count)
  where
    by : (p : Bool) → Sized (cond p (set x (column_of f.tag) (more (column_at x (column_of f.tag)) f.start f.len)) x)
    by true = length-set x (column_of f.tag) _ ∙ z
    by false = z

own : (x : List Column) (k s n : ℕ) → k < column_count → Sized x → column_at (noted_at x k s n) k ≡ more (column_at x k) s n
unfolding noted_at
own x k s n h z = rw (lt-ltb k column_count h, get_or-set_same x k (more (column_at x k) s n) unseen (omega (arith, z)))

other : (x : List Column) (j k s n : ℕ) → (k ≡ j → ⊥) → column_at (noted_at x j s n) k ≡ column_at x k
unfolding noted_at
other x j k s n d = by (ltb j column_count)
  where
    by : (p : Bool) → column_at (cond p (set x j (more (column_at x j) s n)) x) k ≡ column_at x k
    by true = get_or-set_other x j k (more (column_at x j) s n) unseen d
    by false = refl

-- ---- the pass

abbrev pub filled_from : List Column → List Piece → List Column
filled_from x [] = x
filled_from x (g ∷ gs) = filled_from (noted x g) gs

abbrev pub nothing : List Column
nothing = replicate column_count unseen

-- one step of it
pub pass_on : (x y : List Column) (g : Piece) (gs hs : List Piece) → hs ≡ g ∷ gs → y ≡ noted x g → filled_from x hs ≡ filled_from y gs
pass_on x y g gs hs e f = rw (e, f)

sized-from : (x : List Column) (gs : List Piece) → Sized x → Sized (filled_from x gs)
sized-from x [] z = z
sized-from x (g ∷ gs) z = sized-from (noted x g) gs (sized x g z)

module _ (t : ℕ) (h : column_of t < column_count) where
  noted-column : (x : List Column) (g : Piece) → Sized x → column_at (noted x g) (column_of t) ≡ marked t (column_at x (column_of t)) g
  unfolding noted
  noted-column x None z = refl
  noted-column x (Some f) z = by (eqb f.tag t) refl
    where
      by : (q : Bool) → eqb f.tag t ≡ q
          → column_at (noted_at x (column_of f.tag) f.start f.len) (column_of t) ≡ cond q (more (column_at x (column_of t)) f.start f.len) (column_at x (column_of t))
      by true e =
          let q : f.tag ≡ t = eqb-true f.tag t e in
          ap (λ (v : ℕ). column_at (noted_at x (column_of v) f.start f.len) (column_of t)) q ∙ own x (column_of t) f.start f.len h z
      by false e = other x (column_of f.tag) (column_of t) f.start f.len (λ q. eqb-false f.tag t e (column-own t f.tag h q))

  column-from : (x : List Column) (gs : List Piece) → Sized x → column_at (filled_from x gs) (column_of t) ≡ marked_by t (column_at x (column_of t)) gs
  column-from x [] z = refl
  column-from x (g ∷ gs) z = column-from (noted x g) gs (sized x g z) ∙ ap (λ (y : Column). marked_by t y gs) (noted-column x g z)

  column-is : (gs : List Piece) → column_at (filled_from nothing gs) (column_of t) ≡ column (start_in (place_from t gs)) (len_in (place_from t gs)) (min 2 (hits_in t gs))
  column-is gs =
      column-from nothing gs (length-replicate {A = Column} column_count unseen)
      ∙ rw (get_or-replicate column_count (column_of t) unseen unseen h)
      (marked_all t gs)

module _ (body : List ℕ) where
  abbrev pub passed : List Column
  passed = filled_from nothing (located 0 (pieces_of body))

  pub column-told : (t : ℕ) → column_of t < column_count → column_at passed (column_of t) ≡ told_of body t
  unfolding place_of count_of
  column-told t h =
      let gs = located 0 (pieces_of body) in
      column-is t h gs ∙ ap (λ (n : ℕ). column (start_in (place_from t gs)) (len_in (place_from t gs)) (min 2 n)) (sym (count_at_lem t 0 (pieces_of body)))

  pub filled : passed ≡ index_of body
  unfolding index_of
  filled =
      ext_get_or unseen passed (map (told_of body) listed) (long ∙ sym (length-map listed (told_of body) ∙ size))
      (λ k l.
      (let m : k < column_count = omega (arith, l, long) in
      let q = column-at k m in
      ap (column_at passed) (sym q) ∙ column-told (get_or listed k 0) (omega (arith, q)) ∙ sym (told_at listed k (omega (arith, m, size)))))
    where
      long : Sized passed
      long = sized-from nothing (located 0 (pieces_of body)) (length-replicate {A = Column} column_count unseen)

      told_at : (l : List ℕ) (k : ℕ) → k < length l → column_at (map (told_of body) l) k ≡ told_of body (get_or l k 0)
      told_at [] k h = absurd (omega arith)
      told_at (x ∷ l) zero h = refl
      told_at (x ∷ l) (suc k) h = told_at l k (omega arith)

  -- what the index has of a listed tag
  pub column-of-index : (t : ℕ) → column_of t < column_count → column_at (index_of body) (column_of t) ≡ told_of body t
  column-of-index t h = ap (λ (x : List Column). column_at x (column_of t)) (sym filled) ∙ column-told t h
