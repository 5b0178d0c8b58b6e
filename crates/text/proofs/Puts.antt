-- Bytes put to a text.
--     puts_none, puts-puts     nothing more, and more after more
--     putting     these, and those of lists that go with them
--     held_more     what a text holds once more is put to it, cut to the room
--     held-puts, held-short     what an empty text holds once bytes are put to it, and where they are few
--     puts-fits     bytes for which there is room are written over
--     copied, left     what is copied at once where there is room, and where there is not
--     take-most, fronts     as many as are asked for, or all
use Rattle.std.proofs.Common.{◌≡◌, ℕ, zero, suc, ◌+◌, ◌<◌, ◌≤◌, min, Bool, true, false, cond, ltb, List, [], ◌∷◌, ◌++◌, length, take, set, sym, refl, ap, ◌∙◌, ⊎_elim, append_assoc, append-nil, add-zero, zero-add, add-one, arith, length-append, length-set, length-take, length-take-le, take_all, take-suc-set, ltb-false, ltb-true, lt-ltb, leb-true, leb-false}
use native.Mathlib.Nat.{min-eq_left, min-eq_right}
use Rattle.octet.specs.Splice.{splice, fits_at}
use Rattle.octet.proofs.Cases.{le-or-lt}
use Rattle.octet.proofs.Lists.{splice-nil, splice-then, splice-out, set-splice}
use lib.ListN.{length-replicate}
use lib.Seq.{take-length, take-append-le}
use Rattle.text.specs.Writing.{room, put1, puts, held, empty}
use Rattle.text.specs.declared.Text.{Text}

-- the text of these bytes and this length
abbrev text_with : List ℕ → ℕ → Text
text_with b n = record { bytes = b; len = n }

pub puts_none : (t : Text) → puts t [] ≡ t
unfolding puts
puts_none t = refl

pub puts-puts : (t : Text) (xs ys : List ℕ) → puts (puts t xs) ys ≡ puts t (xs ++ ys)
unfolding puts
puts-puts t [] ys = refl
puts-puts t (x ∷ xs) ys = puts-puts (put1 t x) xs ys

-- what is put piece by piece is put at once
pub ruleset putting = (puts_none, puts-puts, append_assoc, append-nil)

-- one byte: it is there where there is room, and the length of the array stays
one : (t : Text) (b : ℕ) → length t.bytes ≡ room → (length (put1 t b).bytes ≡ room) × (held (put1 t b) ≡ take room (held t ++ b ∷ []))
unfolding held
one t b e = by (ltb t.len room) refl where
  by : (w : Bool) → ltb t.len room ≡ w → (length (cond w (text_with (set t.bytes t.len b) (t.len + 1)) t).bytes ≡ room)
      × (held (cond w (text_with (set t.bytes t.len b) (t.len + 1)) t) ≡ take room (take t.len t.bytes ++ b ∷ []))
  by true h =
      let l : t.len < room = ltb-true _ _ h in
      let s : length (take t.len t.bytes ++ b ∷ []) ≤ room = simp (length-append, length-take-le t.len t.bytes (omega arith)) (omega arith) in
      (simp length-set e, rw (add-one, take-suc-set t.bytes t.len b (omega arith)) (sym (take_all room _ s)))
  by false h =
      let l : room ≤ t.len = ltb-false _ _ h in
      let s : take t.len t.bytes ≡ t.bytes = take_all t.len t.bytes (omega arith) in
      (e, rw s (sym (take-append-le room t.bytes (b ∷ []) (omega arith) ∙ take_all room t.bytes (omega arith))))

take-onto : (n : ℕ) (xs ys : List ℕ) → take n (take n xs ++ ys) ≡ take n (xs ++ ys)
take-onto zero xs ys = refl
take-onto (suc n) [] ys = refl
take-onto (suc n) (x ∷ xs) ys = ap (λ (l : List ℕ). x ∷ l) (take-onto n xs ys)

pub held_more : (t : Text) (xs : List ℕ) → length t.bytes ≡ room → held (puts t xs) ≡ take room (held t ++ xs)
unfolding puts held
held_more t [] e = rw append-nil (sym (take_all room _ (simp length-take (omega arith))))
held_more t (x ∷ xs) e =
    let o = one t x e in
    held_more (put1 t x) xs o.0 ∙ rw (o.1, take-onto, append_assoc)

pub held-puts : (xs : List ℕ) → held (puts empty xs) ≡ take room xs
unfolding empty held
held-puts xs = held_more empty xs (length-replicate {A = ℕ} room 0)

pub held-short : (xs : List ℕ) → length xs ≤ room → held (puts empty xs) ≡ xs
held-short xs h = held-puts xs ∙ take_all room xs h

-- ---- where there is room
pub puts-fits : (b : List ℕ) (at : ℕ) (xs : List ℕ) → length b ≡ room → at + length xs ≤ room → puts (text_with b at) xs ≡ text_with (splice b at xs) (at + length xs)
unfolding puts
puts-fits b at [] e h = rw (splice-nil, add-zero)
puts-fits b at (x ∷ xs) e h =
    let l : length (set b at x) ≡ room = simp length-set e in
    let n : at + 1 + length xs ≡ at + suc (length xs) = omega arith in
    ap (λ (t : Text). puts t xs) (rw (lt-ltb at room (omega arith)))
    ∙ puts-fits (set b at x) (at + 1) xs l (omega arith)
    ∙ ap (λ (d : List ℕ). text_with (splice d (at + 1) xs) (at + 1 + length xs)) (set-splice b at x)
    ∙ ap (λ (d : List ℕ). text_with d (at + 1 + length xs)) (splice-then b at (at + 1) (x ∷ []) xs (omega arith) (omega arith))
    ∙ ap (text_with (splice b at (x ∷ xs))) n

-- what is copied at once where it fits, and where it does not
pub copied : (t : Text) (s b : List ℕ) → length t.bytes ≡ room → fits_at t.bytes t.len s ≡ true → b ≡ splice t.bytes t.len s → text_with b (t.len + length s) ≡ puts t s
copied t s b e f h = rw h (sym (puts-fits t.bytes t.len s e (rw e at (leb-true _ _ f))))

pub left : (t : Text) (s b : List ℕ) → fits_at t.bytes t.len s ≡ false → b ≡ splice t.bytes t.len s → text_with b t.len ≡ t
left t s b f h = rw (h ∙ splice-out t.bytes t.len s (leb-false _ _ f))

-- as many as are asked for, or all
pub take-most : (n : ℕ) (l : List ℕ) → take (min n (length l)) l ≡ take n l
take-most n l =
    ⊎_elim (λ h. ap (λ (k : ℕ). take k l) (min-eq_left h))
    (λ h.
    let e : length l ≤ n = omega arith in
    ap (λ (k : ℕ). take k l) (min-eq_right e) ∙ take-length l ∙ sym (take_all n l e))
    (le-or-lt n (length l))

pub ruleset fronts = (take-most)
