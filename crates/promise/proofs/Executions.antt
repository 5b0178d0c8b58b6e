-- Laws of executions, entries and lines: no execution and no key twice, the lines of slots.
use Prim.Native.Nat.{ℕ, zero, suc, ◌+◌, ◌<◌}
use mathlib.Core.Path.{◌≡◌, refl, sym, ap, ◌∙◌}
use mathlib.Core.Logic.{⊎_elim}
use mathlib.Core.List.{List, [], ◌∷◌, ◌++◌}
use mathlib.Core.Option.{Option, none, some}
use mathlib.Core.Bool.{Bool, true, false, ◌&&◌, ◌||◌}
use native.Mathlib.Nat.{add-zero, suc-ne-zero, not-suc-le-zero}
use native.Mathlib.Omega.{arith}
use lib.ListN.{length, drop, get_or, length-append}
use Rattle.octet.specs.Bytes.{same}
use Rattle.octet.specs.Maybe.{find, or_else}
use Rattle.octet.proofs.Cases.{bool_case, contrary, and-fails, and-no-right, find-append, find-here, find-later}
use Rattle.octet.proofs.Lists.{same-sym}
use Rattle.fill.specs.Slot.{Slot, is_fill, is_entry, exec_of}
use Rattle.fill.specs.Entry.{key_of}
use Rattle.fill.specs.Booked.{IsSlot, line_of}
use Rattle.book.specs.Place.{same_exec}
use Rattle.book.specs.Entries.{same_key}
use Rattle.book.specs.Admitting.{twins}
use Rattle.book.proofs.ByKind.{entry-no-fill, twins-as}
use Rattle.book.proofs.Apart.{exec-apart, key_apart}
use Rattle.note.proofs.Keeping.{AllSlots}
use Rattle.promise.specs.World.{without, distinct, Distinct, lines_of}

pub none-some : {A B : Type 0} (a : A) → none ≡ some a → B
none-some a h = let z : ◌≡◌ {A = ℕ} 0 1 = cc in absurd (suc-ne-zero 0 (sym z))

pub or-false : (t : Bool) → t || false ≡ t
or-false true = refl
or-false false = refl

pub no-snoc : {A : Type 0} (l : List Slot) (f : Slot) → l ≡ l ++ (f ∷ []) → A
no-snoc l f h = let z : length l ≡ length l + 1 = ap length h ∙ length-append l (f ∷ []) in absurd (not-suc-le-zero {n = 0} (omega arith))

pub no-empty : {A : Type 0} (l : List Slot) (f : Slot) → [] ≡ l ++ (f ∷ []) → A
no-empty l f h = let z : 0 ≡ length l + 1 = ap length h ∙ length-append l (f ∷ []) in absurd (not-suc-le-zero {n = 0} (omega arith))

-- ---- no execution twice, and no key

find_none : (p : Slot → Bool) (x : Slot) (xs : List Slot) → find p (x ∷ xs) ≡ none → (p x ≡ false) × (find p xs ≡ none)
find_none p x xs h =
    ⊎_elim
    (λ t. none-some x (sym h ∙ find-here p x xs t))
    (λ f. (f, sym (find-later p x xs f) ∙ h))
    (bool_case (p x))

without-none : (f : Slot) (ss : List Slot) → find (twins f) ss ≡ none → without f ss ≡ ss
without-none f [] h = refl
without-none f (s ∷ ss) h =
    let p = find_none (twins f) s ss h in
    rw (p.0, without-none f ss p.1)

-- where no ExecID and no key stands twice the distinct ones are all
pub distinct-all : (fs : List Slot) → Distinct fs → distinct fs ≡ fs
distinct-all [] d = refl
distinct-all (f ∷ fs) d = ap (λ (l : List Slot). f ∷ without f l) (distinct-all fs d.1) ∙ ap (λ (l : List Slot). f ∷ l) (without-none f fs d.0)

-- two fills, and two entries: what tells them apart tells them apart the other way round
other-same : (p q : Bool) (x y : List ℕ) → p ≡ true → p && same x y ≡ false → q && same y x ≡ false
other-same p q x y is h = ⊎_elim (λ n. contrary is n) (λ n. and-no-right q (same y x) (same-sym y x ∙ n)) (and-fails p (same x y) h)

other-exec : (f g : Slot) → is_fill g ≡ true → same_exec f g ≡ false → same_exec g f ≡ false
unfolding same_exec
other-exec f g = other-same (is_fill g) (is_fill f) (exec_of f) (exec_of g)

other_key : (f g : Slot) → is_entry g ≡ true → same_key f g ≡ false → same_key g f ≡ false
unfolding same_key
other_key f g = other-same (is_entry g) (is_entry f) (key_of f) (key_of g)

fill-of : (g : Slot) → IsSlot g → is_entry g ≡ false → is_fill g ≡ true
fill-of g is h = ⊎_elim (λ t. t) (λ t. contrary t h) is.marked

other_way : (f g : Slot) → IsSlot g → twins f g ≡ false → twins g f ≡ false
other_way f g is h =
    ⊎_elim
    (λ ge. twins-as g ge f
    ∙ ⊎_elim
    (λ fe. other_key f g ge (sym (twins-as f fe g) ∙ h))
    (λ ff. key_apart f ff g)
    (bool_case (is_entry f)))
    (λ gf. twins-as g gf f
    ∙ ⊎_elim
    (λ fe. exec-apart f (entry-no-fill f fe) g)
    (λ ff. other-exec f g (fill-of g is gf) (sym (twins-as f ff g) ∙ h))
    (bool_case (is_entry f)))
    (bool_case (is_entry g))

pub distinct_snoc : (fs : List Slot) (f : Slot) → AllSlots fs → Distinct fs → find (twins f) fs ≡ none → Distinct (fs ++ (f ∷ []))
distinct_snoc [] f a d h = (refl, tt)
distinct_snoc (g ∷ fs) f a d h =
    let p = find_none (twins f) g fs h in
    let q : find (twins g) (fs ++ (f ∷ [])) ≡ none
    = find-append (twins g) fs (f ∷ []) ∙ ap (λ (o : Option Slot). or_else o (find (twins g) (f ∷ []))) d.0
    ∙ find-later (twins g) f [] (other_way f g a.0 p.0) in
    (q, distinct_snoc fs f a.1 d.1 p.1)

pub distinct-drop : (n : ℕ) (fs : List Slot) → Distinct fs → Distinct (drop n fs)
distinct-drop zero fs d = d
distinct-drop (suc n) [] d = tt
distinct-drop (suc n) (f ∷ fs) d = distinct-drop n fs d.1

-- ---- lines

pub lines-append : (n : ℕ) (ss ts : List Slot) → lines_of n (ss ++ ts) ≡ lines_of n ss ++ lines_of (n + length ss) ts
lines-append n [] ts = ap (λ (i : ℕ). lines_of i ts) (sym (add-zero n))
lines-append n (s ∷ ss) ts =
    let e : n + 1 + length ss ≡ n + length (s ∷ ss) = omega arith in
    ap (λ (l : List (List ℕ)). line_of n s ∷ l) (lines-append (n + 1) ss ts ∙ ap (λ (i : ℕ). lines_of (n + 1) ss ++ lines_of i ts) e)

pub lines-length : (n : ℕ) (ss : List Slot) → length (lines_of n ss) ≡ length ss
lines-length n [] = refl
lines-length n (s ∷ ss) = ap suc (lines-length (n + 1) ss)

pub line_at : (n : ℕ) (ss : List Slot) (i : ℕ) → i < length ss → get_or (lines_of n ss) i [] ≡ line_of (n + i) (get_or ss i [])
line_at n [] i h = absurd (not-suc-le-zero {n = i} h)
line_at n (s ∷ ss) zero h = ap (λ (i : ℕ). line_of i s) (sym (add-zero n))
line_at n (s ∷ ss) (suc i) h =
    let e : n + 1 + i ≡ n + suc i = omega arith in
    line_at (n + 1) ss i (omega arith) ∙ ap (λ (j : ℕ). line_of j (get_or ss i [])) e
