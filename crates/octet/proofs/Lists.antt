-- List laws: what is left of a list at a place, parts, sameness, agreement, runs, joined lists, and lists written over others (`splice`).
use mathlib.Core.Path.{◌≡◌, refl, sym, ap, ◌∙◌, subst}
use mathlib.Core.Logic.{⊎_elim}
use mathlib.Core.List.{List, [], ◌∷◌, ◌++◌, reverse, reverse-cons, append_assoc, append-nil}
use mathlib.Core.Bool.{Bool, true, false, not, cond, ◌&&◌, ◌||◌, and_assoc, and_comm, and-true}
use Prim.Native.Nat.{ℕ, zero, suc, ◌+◌, ◌-◌, ◌≤◌, ◌<◌, min}
use native.Mathlib.Nat.{add-sub_cancel_left, zero-sub, sub-zero, min-le_left, le_of_eq, add-zero}
use native.Mathlib.Numerals.{add-one}
use native.Mathlib.Omega.{arith}
use lib.ListN.{length, take, drop, get_or, set, length-append, length-take, length-drop, take-append-drop, drop_of_length-le}
use lib.Seq.{drop-cons, set_split, set_out, append_snoc, take_all, take-nil, take-length, take-add, length-take-le, take_at, drop_at, drop-drop, take-take, take-append-le, drop-append-le, drop-append-add, take-append_seam, drop-append_seam, get_or-take, get_or-drop}
use lib.Dec.{leb, ltb, eqb}
use borrow.Rule.Slice.PartMut.{put_mid}
use borrow.Author.Tests.{le-leb, lt-leb, eq-eqb, ne_eqb, eqb-true, leb-true, lt-ltb, le-ltb}
use Rattle.std.specs.Option.{unwrap_or}
use Rattle.std.specs.Prelude.{Some, None}
use Rattle.std.specs.List.{starts_with, position_or_len, list_all, list_any, fold}
use Rattle.std.proofs.lemmas.List.Recursion.{is_position_or_len}
use Rattle.octet.specs.Bytes.{between, same, agree, all_in, run_in, until_byte, part, joined}
use Rattle.octet.specs.Splice.{splice, fits_at}
use Rattle.octet.proofs.Cases.{le-or-lt, bool_case, not-true-false, contrary, bool-ext, of-cond, cond-true, cond-false, cond-not, and_both, and_left, and_right, and-make, and-no-left, and-no-right, or-neither}

-- ---- a loop that walks a list: what is left of it at place i
pub drop-step : (s : List ℕ) (i : ℕ) → i < length s → drop i s ≡ get_or s i 0 ∷ drop (i + 1) s
drop-step s i h = rw (add-one, drop-cons s i 0)

pub drop-done : (s : List ℕ) (i : ℕ) → length s ≤ i → drop i s ≡ []
drop-done s i h = drop_of_length-le s h

-- ---- parts
-- `&s[a..]`
pub part-rest : (s : List ℕ) (a : ℕ) → take (length s - a) (drop a s) ≡ drop a s
part-rest s a = take_all (length s - a) (drop a s) (le_of_eq (length-drop a s))

-- `&s[a..a + n]`
pub part-sized : (s : List ℕ) (a n : ℕ) → take (a + n - a) (drop a s) ≡ part a n s
part-sized s a n = rw (add-sub_cancel_left a n)

-- a part past the end, and one that asks for more than there is
pub part-past : (at n : ℕ) (s : List ℕ) → length s ≤ at → part at n s ≡ []
part-past at n s h = rw (drop_of_length-le s h) (take-nil n)

pub part-all : (at n : ℕ) (s : List ℕ) → length s - at ≤ n → part at n s ≡ drop at s
part-all at n s h = take_all n (drop at s) (omega (arith, length-drop at s))

pub length_part : (at n : ℕ) (s : List ℕ) → at + n ≤ length s → length (part at n s) ≡ n
length_part at n s h = length-take-le n (drop at s) (omega (arith, length-drop at s))

pub part-most : (at n : ℕ) (s : List ℕ) → length (part at n s) ≤ n
part-most at n s = rw length-take (min-le_left n (length (drop at s)))

-- a part that is whole, and one that is not
pub part-whole : {t : List ℕ} (at n : ℕ) (s : List ℕ) → t ≡ part at n s → 0 < n → length t ≡ n → at + n ≤ length s
part-whole at n s e h l = omega (arith, rw e at l, length-take n (drop at s), length-drop at s)

pub part-fewer : {t : List ℕ} (at n : ℕ) (s : List ℕ) → t ≡ part at n s → (length t ≡ n → ⊥) → length s < at + n
part-fewer at n s e h =
    ⊎_elim (λ f. absurd (h (ap length e ∙ length_part at n s f))) (λ f. f) (le-or-lt (at + n) (length s))

pub part-nil : (at n : ℕ) → part at n [] ≡ []
part-nil at n = part-past at n [] (omega arith)

pub part-zero : (at : ℕ) (s : List ℕ) → part at 0 s ≡ []
part-zero at s = refl

-- the bytes of a part, and those past a part
pub part_at : (at n i : ℕ) (s : List ℕ) → i < n → get_or (part at n s) i 0 ≡ get_or s (at + i) 0
part_at at n i s h = get_or-take n (drop at s) i 0 h ∙ get_or-drop at s i 0

pub drop-take : (a b : ℕ) (s : List ℕ) → drop a (take b s) ≡ take (b - a) (drop a s)
drop-take zero b s = rw sub-zero
drop-take (suc a) zero s = sym (rw zero-sub)
drop-take (suc a) (suc b) [] = sym (take-nil (suc b - suc a))
drop-take (suc a) (suc b) (x ∷ s) = let e : b - a ≡ suc b - suc a = omega arith in drop-take a b s ∙ ap (λ (k : ℕ). take k (drop a s)) e

-- a part of a part
pub part-part : (at n at' n' : ℕ) (s : List ℕ) → at' + n' ≤ n → part at' n' (part at n s) ≡ part (at + at') n' s
part-part at n at' n' s h =
    ap (take n') (drop-take at' n (drop at s))
    ∙ take-take n' (n - at') (drop at' (drop at s)) (omega arith)
    ∙ ap (take n') (drop-drop at' at s)

-- a part, cut off first and then begun
pub part-take : (a n : ℕ) (s : List ℕ) → drop a (take (a + n) s) ≡ part a n s
part-take a n s = drop-take a (a + n) s ∙ part-sized s a n

-- a part of a rest
pub part-drop : (a at n : ℕ) (s : List ℕ) → part at n (drop a s) ≡ part (a + at) n s
part-drop a at n s = ap (take n) (drop-drop at a s)

-- two parts that adjoin
pub part-add : (at n m : ℕ) (s : List ℕ) → part at (n + m) s ≡ part at n s ++ part (at + n) m s
part-add at n m s = take-add n m (drop at s) ∙ ap (λ (l : List ℕ). take n (drop at s) ++ take m l) (drop-drop n at s)

-- parts of two lists, one after the other: inside the first, inside the second, and the second's front
pub part-first : (at n : ℕ) (a b : List ℕ) → at + n ≤ length a → part at n (a ++ b) ≡ part at n a
part-first at n a b h =
    ap (take n) (drop-append-le at a b (omega arith)) ∙ take-append-le n (drop at a) b (omega (arith, length-drop at a))

pub part-second : (at n : ℕ) (a b : List ℕ) → part (length a + at) n (a ++ b) ≡ part at n b
part-second at n a b = ap (take n) (drop-append-add a b at)

pub part-front : (a b : List ℕ) → part 0 (length a) (a ++ b) ≡ a
part-front a b = take-append_seam a b

pub part-next : (a b c : List ℕ) → part (length a) (length b) (a ++ b ++ c) ≡ b
part-next a b c = rw (append_assoc a b c) (rw (drop-append_seam a (b ++ c)) (take-append_seam b c))

-- a list cut at two places
pub cut-in-three : (at n : ℕ) (s : List ℕ) → take at s ++ part at n s ++ drop (at + n) s ≡ s
cut-in-three at n s =
    append_assoc (take at s) (part at n s) (drop (at + n) s)
    ∙ ap (λ (l : List ℕ). take at s ++ (part at n s ++ l)) (sym (drop-drop n at s))
    ∙ ap (λ (l : List ℕ). take at s ++ l) (take-append-drop n (drop at s))
    ∙ take-append-drop at s

-- ---- same
pub same_refl : (a : List ℕ) → same a a ≡ true
same_refl [] = refl
same_refl (x ∷ xs) = rw (eq-eqb x x refl) (same_refl xs)

pub same_true : (a b : List ℕ) → same a b ≡ true → a ≡ b
same_true [] [] e = refl
same_true [] (y ∷ ys) e = cc
same_true (x ∷ xs) [] e = cc
same_true (x ∷ xs) (y ∷ ys) e =
    let p = and_both (eqb x y) (same xs ys) e in
    let h : x ≡ y = eqb-true x y p.0 in
    let t : xs ≡ ys = same_true xs ys p.1 in
    cc

pub same_of : (a b : List ℕ) → a ≡ b → same a b ≡ true
same_of a b e = rw (← e) (same_refl a)

-- lists that are not equal, and lists that some test tells apart
pub same_false : (a b : List ℕ) → (a ≡ b → ⊥) → same a b ≡ false
same_false a b h = not-true-false (same a b) (λ e. h (same_true a b e))

pub same-differ : (a b : List ℕ) → same a b ≡ false → a ≡ b → ⊥
same-differ a b e h = contrary (same_of a b h) e

pub same-sym : (a b : List ℕ) → same a b ≡ same b a
same-sym a b =
    bool-ext (same a b) (same b a) (λ e. same_of b a (sym (same_true a b e))) (λ e. same_of a b (sym (same_true b a e)))

-- the same from a common front on
pub same-front : (a b c : List ℕ) → same (a ++ b) (a ++ c) ≡ same b c
same-front [] b c = refl
same-front (x ∷ a) b c = rw (eq-eqb x x refl) (same-front a b c)

-- ---- agree
pub agree-none : (o : List ℕ) → agree o [] ≡ true
agree-none [] = refl
agree-none (x ∷ o) = refl

pub agree-self : (o s : List ℕ) → agree o (o ++ s) ≡ true
agree-self [] s = refl
agree-self (x ∷ o) s = rw (eq-eqb x x refl) (agree-self o s)

pub length-differs : (a b : List ℕ) → (length a ≡ length b → ⊥) → same a b ≡ false
length-differs a b h = same_false a b (λ e. h (ap length e))

-- what agrees with a list that is no longer begins with it
pub agree-begins : (o s : List ℕ) → length o ≤ length s → agree o s ≡ true → s ≡ o ++ drop (length o) s
agree-begins [] s h e = refl
agree-begins (x ∷ o) [] h e = absurd (omega arith)
agree-begins (x ∷ o) (y ∷ s) h e =
    let p = and_both (eqb x y) (agree o s) e in
    let f : x ≡ y = eqb-true x y p.0 in
    let t : s ≡ o ++ drop (length o) s = agree-begins o s (omega arith) p.1 in
    cc

-- one begins with the other, as `starts_with` asks it
pub agree-starts : (o s : List ℕ) → agree o s ≡ (starts_with eqb s o || starts_with eqb o s)
agree-starts [] s = refl
agree-starts (x ∷ o) [] = refl
agree-starts (x ∷ o) (y ∷ s) =
    ⊎_elim
    (λ (h : eqb x y ≡ true). rw (h, eq-eqb y x (sym (eqb-true x y h))) (agree-starts o s))
    (λ (h : eqb x y ≡ false). rw (h, ne_eqb y x (λ (e : y ≡ x). contrary (eq-eqb x y (sym e)) h)))
    (bool_case (eqb x y))

-- a walk over both, from places i and j on
module _ (o s : List ℕ) (i j : ℕ) where
  pub agree-next : i < length o → j < length s → get_or o i 0 ≡ get_or s j 0 → agree (drop i o) (drop j s) ≡ agree (drop (i + 1) o) (drop (j + 1) s)
  agree-next hi hj e = rw (drop-step o i hi, drop-step s j hj, eq-eqb _ _ e)

  pub agree_differ : i < length o → j < length s → (get_or o i 0 ≡ get_or s j 0 → ⊥) → agree (drop i o) (drop j s) ≡ false
  agree_differ hi hj e = rw (drop-cons o i 0 hi, drop-cons s j 0 hj, ne_eqb _ _ e)

  pub agree-out-left : length o ≤ i → agree (drop i o) (drop j s) ≡ true
  agree-out-left h = rw (drop_of_length-le o h)

  pub agree-out-right : length s ≤ j → agree (drop i o) (drop j s) ≡ true
  agree-out-right h = rw (drop_of_length-le s h) (agree-none (drop i o))

-- ---- between
pub is-between : (low high b : ℕ) → low ≤ b → b ≤ high → between low high b ≡ true
is-between low high b l h = and-make (leb low b) (leb b high) (le-leb low b l) (le-leb b high h)

pub is_below : (low high b : ℕ) → b < low → between low high b ≡ false
is_below low high b l = and-no-left (leb low b) (leb b high) (lt-leb low b l)

pub is-above : (low high b : ℕ) → high < b → between low high b ≡ false
is-above low high b h = and-no-right (leb low b) (leb b high) (lt-leb b high h)

pub between-low : (low high b : ℕ) → between low high b ≡ true → low ≤ b
between-low low high b e = leb-true low b (and_left (leb low b) (leb b high) e)

pub between-high : (low high b : ℕ) → between low high b ≡ true → b ≤ high
between-high low high b e = leb-true b high (and_right (leb low b) (leb b high) e)

-- ---- until_byte
pub until-append : (b : ℕ) (s t : List ℕ) → until_byte b s ≡ length s → until_byte b (s ++ b ∷ t) ≡ length s
until-append b [] t e = rw (eq-eqb b b refl)
until-append b (x ∷ s) t e =
    ⊎_elim
    (λ (h : eqb x b ≡ true). absurd (let z : 0 ≡ suc (length s) = rw h at e in omega arith))
    (λ (h : eqb x b ≡ false). rw h (ap suc (until-append b s t (let z : suc (until_byte b s) ≡ suc (length s) = rw h at e in omega arith))))
    (bool_case (eqb x b))

-- no byte of low to high is b, so the first b stands after them
pub until-in : (b low high : ℕ) (s : List ℕ) → all_in low high s ≡ true → between low high b ≡ false → until_byte b s ≡ length s
until-in b low high [] e h = refl
until-in b low high (x ∷ s) e h =
    let p = and_both (between low high x) (all_in low high s) e in
    rw (ne_eqb x b (λ (f : x ≡ b). contrary p.0 (ap (between low high) f ∙ h))) (ap suc (until-in b low high s p.1 h))

-- as `position` asks it
pub until_position : (b : ℕ) (s : List ℕ) → until_byte b s ≡ position_or_len (λ (x : ℕ). eqb x b) s
until_position b = is_position_or_len (until_byte b) (λ (x : ℕ). eqb x b) refl (λ (x : ℕ) (s : List ℕ). ap (cond (eqb x b) 0) (let e : suc (until_byte b s) ≡ 1 + until_byte b s = omega arith in e))

pub until-most : (b : ℕ) (s : List ℕ) → until_byte b s ≤ length s
until-most b [] = omega arith
until-most b (x ∷ s) = of-cond (λ (n : ℕ). n ≤ suc (length s)) (eqb x b) (λ e. omega arith) (λ e. omega (arith, until-most b s))

-- as a fold asks whether there is none
none-from : (b : ℕ) (t : Bool) (s : List ℕ) → fold (λ (none : Bool) (x : ℕ). none && not (eqb x b)) t s ≡ t && not (list_any (λ (x : ℕ). eqb x b) s)
none-from b t [] = sym (and-true t)
none-from b t (x ∷ s) = none-from b (t && not (eqb x b)) s ∙ apart t (eqb x b) (list_any (λ (y : ℕ). eqb y b) s)
  where
    apart : (t p q : Bool) → (t && not p) && not q ≡ t && not (p || q)
    apart true true q = refl
    apart true false q = refl
    apart false p q = refl

pub none-fold : (b : ℕ) (s : List ℕ) → fold (λ (none : Bool) (x : ℕ). none && not (eqb x b)) true s ≡ not (list_any (λ (x : ℕ). eqb x b) s)
none-fold b s = none-from b true s

-- where there is none, the first b stands further on
until-none : (b : ℕ) (s : List ℕ) → list_any (λ (x : ℕ). eqb x b) s ≡ false → until_byte b s ≡ length s
until-none b [] e = refl
until-none b (x ∷ s) e =
    let p = or-neither (eqb x b) (list_any (λ (y : ℕ). eqb y b) s) e in
    cond-false (eqb x b) 0 (suc (until_byte b s)) p.0 ∙ ap suc (until-none b s p.1)

-- among the first n bytes
pub until-take : (b n : ℕ) (s : List ℕ) → until_byte b (take n s) ≡ min n (until_byte b s)
until-take b zero s = omega arith
until-take b (suc n) [] = omega arith
until-take b (suc n) (x ∷ s) =
    of-cond (λ (m : ℕ). m ≡ min (suc n) (until_byte b (x ∷ s))) (eqb x b)
    (λ e. rw e (omega arith)) (λ e. rw e (omega (arith, until-take b n s)))

-- what may be passed over, and the count from there on
pub until-from : (b i : ℕ) (s : List ℕ) → i ≤ until_byte b s → until_byte b s ≡ i + until_byte b (drop i s)
until-from b zero s h = omega arith
until-from b (suc i) [] h = absurd (omega arith)
until-from b (suc i) (x ∷ s) h =
    of-cond (λ (n : ℕ). suc i ≤ n → n ≡ suc i + until_byte b (drop i s)) (eqb x b)
    (λ e g. absurd (omega arith)) (λ e g. omega (arith, until-from b i s (omega arith))) h

not-true : (p : Bool) → not p ≡ true → p ≡ false
not-true true e = sym e
not-true false e = refl

pub until-past : (b n : ℕ) (s : List ℕ) → n ≤ length s → not (list_any (λ (x : ℕ). eqb x b) (take n s)) ≡ true → until_byte b s ≡ n + until_byte b (drop n s)
until-past b n s h e =
    let u : until_byte b (take n s) ≡ n = until-none b (take n s) (not-true (list_any (λ (x : ℕ). eqb x b) (take n s)) e) ∙ length-take-le n s h in
    until-from b n s (omega (arith, until-take b n s))

-- the count, where `position` gave it
pub counted : (n m : ℕ) → n ≤ m → unwrap_or (cond (ltb n m) (Some n) None) m ≡ n
counted n m h =
    ⊎_elim
    (λ (f : m ≤ n). ap (λ (t : Bool). unwrap_or (cond t (Some n) None) m) (le-ltb n m f) ∙ (let e : m ≡ n = omega arith in e))
    (λ (f : n < m). ap (λ (t : Bool). unwrap_or (cond t (Some n) None) m) (lt-ltb n m f))
    (le-or-lt m n)

-- a walk: a byte that is not b
pub until-go : (b : ℕ) (s : List ℕ) (i : ℕ) → i < length s → (get_or s i 0 ≡ b → ⊥) → until_byte b (drop i s) ≡ 1 + until_byte b (drop (i + 1) s)
until-go b s i h e = ap (until_byte b) (drop-step s i h) ∙ cond-false (eqb (get_or s i 0) b) 0 (suc (until_byte b (drop (i + 1) s))) (ne_eqb _ _ e) ∙ omega arith

-- ---- all_in and run_in
module _ (low high : ℕ) where
  pub all_in-append : (s t : List ℕ) → all_in low high (s ++ t) ≡ all_in low high s && all_in low high t
  all_in-append [] t = refl
  all_in-append (b ∷ s) t =
      ap (◌&&◌ (between low high b)) (all_in-append s t) ∙ sym (and_assoc (between low high b) (all_in low high s) (all_in low high t))

  pub all_in-reverse : (s : List ℕ) → all_in low high (reverse s) ≡ all_in low high s
  all_in-reverse [] = refl
  all_in-reverse (b ∷ s) =
      let t = between low high b in
      ap (all_in low high) (reverse-cons b s)
      ∙ all_in-append (reverse s) (b ∷ [])
      ∙ ap (λ (p : Bool). p && (t && true)) (all_in-reverse s)
      ∙ ap (◌&&◌ (all_in low high s)) (and-true t)
      ∙ and_comm (all_in low high s) t

  -- as `all` asks it, and as a fold does
  pub all_in_list : (s : List ℕ) → all_in low high s ≡ list_all (between low high) s
  all_in_list [] = refl
  all_in_list (b ∷ s) = ap (◌&&◌ (between low high b)) (all_in_list s)

  all_in-from : (t : Bool) (s : List ℕ) → fold (λ (all : Bool) (b : ℕ). (all && leb low b) && leb b high) t s ≡ t && all_in low high s
  all_in-from t [] = sym (and-true t)
  all_in-from t (b ∷ s) =
      all_in-from ((t && leb low b) && leb b high) s
      ∙ ap (λ (p : Bool). p && all_in low high s) (and_assoc t (leb low b) (leb b high))
      ∙ and_assoc t (between low high b) (all_in low high s)

  pub all_in_fold : (s : List ℕ) → all_in low high s ≡ fold (λ (all : Bool) (b : ℕ). (all && leb low b) && leb b high) true s
  all_in_fold s = sym (all_in-from true s)

  -- byte by byte
  pub all_in-at : (s : List ℕ) (i : ℕ) → all_in low high s ≡ true → i < length s → between low high (get_or s i 0) ≡ true
  all_in-at [] i e h = absurd (omega arith)
  all_in-at (b ∷ s) zero e h = and_left (between low high b) (all_in low high s) e
  all_in-at (b ∷ s) (suc i) e h = all_in-at s i (and_right (between low high b) (all_in low high s) e) (omega arith)

  pub all_in-of : (s : List ℕ) → ((i : ℕ) → i < length s → between low high (get_or s i 0) ≡ true) → all_in low high s ≡ true
  all_in-of [] f = refl
  all_in-of (b ∷ s) f =
      and-make (between low high b) (all_in low high s) (f 0 (omega arith)) (all_in-of s (λ i h. f (suc i) (omega arith)))

  -- of a part
  pub all_in-take : (n : ℕ) (s : List ℕ) → all_in low high s ≡ true → all_in low high (take n s) ≡ true
  all_in-take zero s e = refl
  all_in-take (suc n) [] e = refl
  all_in-take (suc n) (b ∷ s) e =
      let p = and_both (between low high b) (all_in low high s) e in
      and-make (between low high b) (all_in low high (take n s)) p.0 (all_in-take n s p.1)

  pub all_in-drop : (n : ℕ) (s : List ℕ) → all_in low high s ≡ true → all_in low high (drop n s) ≡ true
  all_in-drop zero s e = e
  all_in-drop (suc n) [] e = refl
  all_in-drop (suc n) (b ∷ s) e = all_in-drop n s (and_right (between low high b) (all_in low high s) e)

  pub all_in-part : (at n : ℕ) (s : List ℕ) → all_in low high s ≡ true → all_in low high (part at n s) ≡ true
  all_in-part at n s e = all_in-take n (drop at s) (all_in-drop at s e)

  -- the run of bytes that all pass is all of them
  pub run-all : (s : List ℕ) → all_in low high s ≡ true → run_in low high s ≡ length s
  run-all [] e = refl
  run-all (b ∷ s) e =
      let p = and_both (between low high b) (all_in low high s) e in
      cond-true (between low high b) (suc (run_in low high s)) 0 p.0 ∙ ap suc (run-all s p.1)

  -- it stops at a byte outside
  pub run-before : (s : List ℕ) (b : ℕ) (t : List ℕ) → all_in low high s ≡ true → between low high b ≡ false → run_in low high (s ++ b ∷ t) ≡ length s
  run-before [] b t e h = cond-false (between low high b) (suc (run_in low high t)) 0 h
  run-before (x ∷ s) b t e h =
      let p = and_both (between low high x) (all_in low high s) e in
      cond-true (between low high x) (suc (run_in low high (s ++ b ∷ t))) 0 p.0 ∙ ap suc (run-before s b t p.1 h)

  -- as `position` asks it
  pub run_position : (s : List ℕ) → run_in low high s ≡ position_or_len (λ (b : ℕ). not (between low high b)) s
  run_position =
      is_position_or_len (run_in low high) (λ (b : ℕ). not (between low high b)) refl
      (λ (b : ℕ) (s : List ℕ).
      ap (λ (n : ℕ). cond (between low high b) n 0) (let e : suc (run_in low high s) ≡ 1 + run_in low high s = omega arith in e)
      ∙ sym (cond-not (between low high b) 0 (1 + run_in low high s)))

  pub run-most : (s : List ℕ) → run_in low high s ≤ length s
  run-most [] = omega arith
  run-most (b ∷ s) = of-cond (λ (n : ℕ). n ≤ suc (length s)) (between low high b) (λ e. omega (arith, run-most s)) (λ e. omega arith)

  -- the run from a place inside it on
  pub run-from : (i : ℕ) (s : List ℕ) → i ≤ run_in low high s → run_in low high s ≡ i + run_in low high (drop i s)
  run-from zero s h = omega arith
  run-from (suc i) [] h = absurd (omega arith)
  run-from (suc i) (b ∷ s) h =
      of-cond (λ (n : ℕ). suc i ≤ n → n ≡ suc i + run_in low high (drop i s)) (between low high b)
      (λ e g. omega (arith, run-from i s (omega arith))) (λ e g. absurd (omega arith)) h

  -- the bytes of the run pass
  pub run_in_lem : (s : List ℕ) → all_in low high (take (run_in low high s) s) ≡ true
  run_in_lem [] = refl
  run_in_lem (b ∷ s) =
      of-cond (λ (n : ℕ). all_in low high (take n (b ∷ s)) ≡ true) (between low high b)
      (λ e. and-make (between low high b) (all_in low high (take (run_in low high s) s)) e (run_in_lem s)) (λ e. refl)

  -- all pass exactly where the run is as long as the list
  pub run-is-all : (s : List ℕ) → eqb (run_in low high s) (length s) ≡ all_in low high s
  run-is-all s =
      bool-ext (eqb (run_in low high s) (length s)) (all_in low high s)
      (λ e. (let h : run_in low high s ≡ length s = eqb-true (run_in low high s) (length s) e in rw (h, take-length) at (run_in_lem s)))
      (λ e. eq-eqb (run_in low high s) (length s) (run-all s e))

  -- the run reaches as far as bytes at the front pass
  pub run-reach : (n : ℕ) (s : List ℕ) → n ≤ length s → all_in low high (take n s) ≡ true → n ≤ run_in low high s
  run-reach zero s h e = omega arith
  run-reach (suc n) [] h e = absurd (omega arith)
  run-reach (suc n) (b ∷ s) h e =
      let p = and_both (between low high b) (all_in low high (take n s)) e in
      omega (arith, cond-true (between low high b) (suc (run_in low high s)) 0 p.0, run-reach n s (omega arith) p.1)

  -- a walk: a byte that does not pass
  pub run-stop : (s : List ℕ) (i : ℕ) → i < length s → between low high (get_or s i 0) ≡ false → run_in low high (drop i s) ≡ 0
  run-stop s i h e = ap (run_in low high) (drop-step s i h) ∙ cond-false (between low high (get_or s i 0)) (suc (run_in low high (drop (i + 1) s))) 0 e

-- ---- joined
pub joined-append : (f g : List (List ℕ)) → joined (f ++ g) ≡ joined f ++ joined g
joined-append [] g = refl
joined-append (x ∷ f) g = ap (λ (l : List ℕ). x ++ l) (joined-append f g) ∙ sym (append_assoc x (joined f) (joined g))

pub joined-one : (x : List ℕ) → joined (x ∷ []) ≡ x
joined-one x = append-nil x

-- ---- splice
pub fits-true : (d : List ℕ) (at : ℕ) (s : List ℕ) → at + length s ≤ length d → fits_at d at s ≡ true
fits-true d at s h = le-leb (at + length s) (length d) h

pub fits-false : (d : List ℕ) (at : ℕ) (s : List ℕ) → length d < at + length s → fits_at d at s ≡ false
fits-false d at s h = lt-leb (at + length s) (length d) h

pub splice-in : (d : List ℕ) (at : ℕ) (s : List ℕ) → at + length s ≤ length d → splice d at s ≡ take at d ++ s ++ drop (at + length s) d
unfolding splice
splice-in d at s h = simp (le-leb _ _ h)

pub splice-out : (d : List ℕ) (at : ℕ) (s : List ℕ) → length d < at + length s → splice d at s ≡ d
unfolding splice
splice-out d at s h = simp (lt-leb _ _ h)

head-length : (d : List ℕ) (at : ℕ) (s : List ℕ) → at + length s ≤ length d → length (take at d ++ s) ≡ at + length s
head-length d at s h = simp (length-append, length-take-le at d (omega arith))

pub splice-length : (d : List ℕ) (at : ℕ) (s : List ℕ) → length (splice d at s) ≡ length d
splice-length d at s =
    ⊎_elim
    (λ h. ap length (splice-in d at s h) ∙ simp (length-append, length-take-le at d (omega arith), length-drop) (omega arith))
    (λ h. ap length (splice-out d at s h))
    (le-or-lt (at + length s) (length d))

-- bytes that do not fit, and bytes that were written over a part of a slice
pub no-room : (d : List ℕ) (at : ℕ) (s : List ℕ) → fits_at d at s ≡ false → (false ≡ fits_at d at s) × (d ≡ splice d at s)
unfolding splice
no-room d at s e = (sym e, simp e)

pub written : (d : List ℕ) (at k : ℕ) (s : List ℕ) {t : List ℕ} → k ≡ length s → t ≡ s → fits_at d at s ≡ true → (true ≡ fits_at d at s) × (put_mid at k d t ≡ splice d at s)
written d at k s e w f = (
  sym f,
  ap (put_mid at k d) w
      ∙ ap (λ (l : List ℕ). take at d ++ (s ++ l)) (drop-drop k at d)
      ∙ ap (λ (n : ℕ). take at d ++ (s ++ drop (at + n) d)) e
      ∙ sym (append_assoc (take at d) s (drop (at + length s) d))
      ∙ sym (splice-in d at s (leb-true (at + length s) (length d) f)),
)

-- what was written reads back; what lies before and after is as it was
pub splice-take : (d : List ℕ) (at : ℕ) (s : List ℕ) → at + length s ≤ length d → take (at + length s) (splice d at s) ≡ take at d ++ s
splice-take d at s h = ap (take (at + length s)) (splice-in d at s h) ∙ take_at (take at d ++ s) _ _ (head-length d at s h)

pub splice-drop : (d : List ℕ) (at : ℕ) (s : List ℕ) → at + length s ≤ length d → drop (at + length s) (splice d at s) ≡ drop (at + length s) d
splice-drop d at s h = ap (drop (at + length s)) (splice-in d at s h) ∙ drop_at (take at d ++ s) _ _ (head-length d at s h)

pub splice-read : (d : List ℕ) (at : ℕ) (s : List ℕ) → at + length s ≤ length d → part at (length s) (splice d at s) ≡ s
splice-read d at s h =
    ap (part at (length s)) (splice-in d at s h ∙ append_assoc (take at d) s (drop (at + length s) d))
    ∙ ap (take (length s)) (drop_at (take at d) (s ++ drop (at + length s) d) at (length-take-le at d (omega arith)))
    ∙ take_at s _ (length s) refl

pub splice-before : (d : List ℕ) (at : ℕ) (s : List ℕ) (n : ℕ) → n ≤ at → take n (splice d at s) ≡ take n d
splice-before d at s n h =
    ⊎_elim
    (λ f. ap (take n) (splice-in d at s f ∙ append_assoc (take at d) s (drop (at + length s) d))
    ∙ take-append-le n (take at d) (s ++ drop (at + length s) d) (omega (arith, length-take-le at d (omega arith)))
    ∙ take-take n at d h)
    (λ f. ap (take n) (splice-out d at s f))
    (le-or-lt (at + length s) (length d))

pub splice-after : (d : List ℕ) (at : ℕ) (s : List ℕ) (n : ℕ) → at + length s ≤ n → drop n (splice d at s) ≡ drop n d
splice-after d at s n h =
    ⊎_elim
    (λ f. (let e : at + length s + (n - (at + length s)) ≡ n = omega arith in
    ap (λ (k : ℕ). drop k (splice d at s)) (sym e)
    ∙ sym (drop-drop (n - (at + length s)) (at + length s) (splice d at s))
    ∙ ap (drop (n - (at + length s))) (splice-drop d at s f)
    ∙ drop-drop (n - (at + length s)) (at + length s) d
    ∙ ap (λ (k : ℕ). drop k d) e))
    (λ f. ap (drop n) (splice-out d at s f))
    (le-or-lt (at + length s) (length d))

-- a part that lies before or after what was written
pub part-splice-before : (d : List ℕ) (at : ℕ) (s : List ℕ) (a n : ℕ) → a + n ≤ at → part a n (splice d at s) ≡ part a n d
part-splice-before d at s a n h =
    sym (part-take a n (splice d at s)) ∙ ap (drop a) (splice-before d at s (a + n) h) ∙ part-take a n d

pub part-splice-after : (d : List ℕ) (at : ℕ) (s : List ℕ) (a n : ℕ) → at + length s ≤ a → part a n (splice d at s) ≡ part a n d
part-splice-after d at s a n h = ap (take n) (splice-after d at s a h)

-- two writes that adjoin are one
pub splice-join : (d : List ℕ) (at : ℕ) (s t : List ℕ) → at + length s + length t ≤ length d → splice (splice d at s) (at + length s) t ≡ splice d at (s ++ t)
splice-join d at s t h =
    let fs : at + length s ≤ length d = omega arith in
    let m = splice d at s in
    let ft : at + length s + length t ≤ length m = subst (λ (n : ℕ). at + length s + length t ≤ n) (sym (splice-length d at s)) h in
    let e : at + length (s ++ t) ≡ at + length s + length t = simp length-append (omega arith) in
    splice-in m (at + length s) t ft
    ∙ ap (λ (l : List ℕ). l ++ t ++ drop (at + length s + length t) m) (splice-take d at s fs)
    ∙ ap (λ (l : List ℕ). take at d ++ s ++ t ++ l)
    (sym (drop-drop (length t) (at + length s) m) ∙ ap (drop (length t)) (splice-drop d at s fs) ∙ drop-drop (length t) (at + length s) d)
    ∙ ap (λ (l : List ℕ). l ++ drop (at + length s + length t) d) (append_assoc (take at d) s t)
    ∙ ap (λ (n : ℕ). take at d ++ (s ++ t) ++ drop n d) (sym e)
    ∙ sym (splice-in d at (s ++ t) (subst (λ (n : ℕ). n ≤ length d) (sym e) h))

-- the same where the second place and the whole's room are named apart
pub splice-then : (d : List ℕ) (at next : ℕ) (s t : List ℕ) → next ≡ at + length s → next + length t ≤ length d → splice (splice d at s) next t ≡ splice d at (s ++ t)
splice-then d at next s t e h = rw e (splice-join d at s t (omega arith))

pub splice-nil : (d : List ℕ) (at : ℕ) → splice d at [] ≡ d
splice-nil d at =
    ⊎_elim
    (λ h. splice-in d at [] h ∙ simp (append-nil, add-zero) (take-append-drop at d))
    (λ h. splice-out d at [] h)
    (le-or-lt (at + 0) (length d))

-- what is written over all of it
pub splice-whole : (d s : List ℕ) → length s ≡ length d → splice d 0 s ≡ s
splice-whole d s e =
    splice-in d 0 s (omega arith) ∙ ap (λ (l : List ℕ). s ++ l) (drop-done d (0 + length s) (omega arith)) ∙ append-nil s

-- what already stands there
pub splice-same : (d : List ℕ) (at n : ℕ) → at + n ≤ length d → splice d at (part at n d) ≡ d
splice-same d at n h =
    splice-in d at (part at n d) (omega (arith, length_part at n d h))
    ∙ ap (λ (k : ℕ). take at d ++ part at n d ++ drop (at + k) d) (length_part at n d h)
    ∙ cut-in-three at n d

-- a second write over the same bytes
pub splice-over : (d : List ℕ) (at : ℕ) (s t : List ℕ) → length s ≡ length t → splice (splice d at s) at t ≡ splice d at t
splice-over d at s t e =
    ⊎_elim
    (λ h. splice-in (splice d at s) at t (omega (arith, splice-length d at s))
    ∙ ap (λ (l : List ℕ). l ++ t ++ drop (at + length t) (splice d at s)) (splice-before d at s at (omega arith))
    ∙ ap (λ (l : List ℕ). take at d ++ t ++ l) (splice-after d at s (at + length t) (omega arith))
    ∙ sym (splice-in d at t h))
    (λ h. ap (λ (l : List ℕ). splice l at t) (splice-out d at s (omega arith)))
    (le-or-lt (at + length t) (length d))

-- a store is a write of one byte
pub set-splice : (d : List ℕ) (i x : ℕ) → set d i x ≡ splice d i (x ∷ [])
set-splice d i x =
    ⊎_elim
    (λ h. set_split d i x (omega (arith, add-one i)) ∙ sym (append_snoc (take i d) x (drop (suc i) d)) ∙ ap (λ (k : ℕ). take i d ++ (x ∷ []) ++ drop k d) (sym (add-one i)) ∙ sym (splice-in d i (x ∷ []) h))
    (λ h. set_out d i x (omega arith) ∙ sym (splice-out d i (x ∷ []) h))
    (le-or-lt (i + 1) (length d))
