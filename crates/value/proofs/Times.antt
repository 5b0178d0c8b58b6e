-- UTC times: what reading makes of form and range, what it means that a time was read, and a time that gets.000.
--     time-good, time-bad, time-out     what each answer means
--     time-is, time-bytes     what it means to be a time, and the bytes of one
--     time-read     a time is read
--     time-ok     the answers, as a test
--     day-plain, clock-plain, time-plain     a time with .mmm, known by the bytes at its places
--     time-filled, time-full     a time of 17 bytes with .000 after it is a time, of 21 bytes
use mathlib.Core.Path.{◌≡◌, refl, sym, ap, ◌∙◌}
use mathlib.Core.Logic.{◌⊎◌, ⊎_elim, inl, inr}
use mathlib.Core.List.{List, [], ◌∷◌, ◌++◌}
use mathlib.Core.Option.{Option, none, some}
use mathlib.Core.Bool.{Bool, true, false, cond, ◌&&◌}
use Prim.Native.Nat.{ℕ, ◌+◌, ◌*◌, ◌≤◌}
use native.Mathlib.Omega.{arith}
use lib.ListN.{length, length-append, get_or}
use lib.Dec.{eqb}
use borrow.Author.Tests.{eqb-true, eq-eqb}
use Rattle.octet.specs.Bytes.{bytes_of, between, all_in}
use Rattle.octet.specs.Maybe.{is_none}
use Rattle.octet.proofs.Cases.{of-cond, contrary, cond-true, and_both, and-make, or_cases}
use Rattle.octet.proofs.Lists.{part-first}
use Rattle.text.specs.Decimal.{digits}
use Rattle.value.specs.Value.{well_formed, like_run, time_pattern, time_long, bad_time, is_day, is_clock, number_on, time_fits, is_time}
use Rattle.value.specs.Plain.{like_from, two_digits, pair_on, PlainDay, PlainClock}
use Rattle.value.specs.Readers.{checked, time_checked}
use Rattle.std.specs.Prelude.{Some, is_ok, Ok, Err}
use Rattle.value.specs.declared.Flaw.TheVariants.{Form, Range}
use Rattle.value.proofs.Forms.{form-short, form-part, form-well, form-good, checked-good, checked-bad, checked-out}
use Rattle.value.proofs.Like.{like-go, like-done, like-all, like-append}

-- ---- form, and then range
module _ (v : List ℕ) (good : ℕ) (e : good ≡ like_run time_pattern v) where
  by-run : bad_time v ≡ well_formed v good (time_long (length v))
  unfolding bad_time
  by-run = ap (λ (n : ℕ). well_formed v n (time_long (length v))) (sym e)

  pub time-short : (good ≡ length v → ⊥) → Err (Form good) ≡ time_checked v
  unfolding time_checked
  time-short h = sym (ap (λ (o : Option ℕ). checked o (time_fits v)) (by-run ∙ form-short v good (time_long (length v)) h))

  module _ (g : good ≡ length v) where
    pub time-long : time_long good ≡ false → Err (Form good) ≡ time_checked v
    unfolding time_checked
    time-long h =
        sym (ap (λ (o : Option ℕ). checked o (time_fits v)) (by-run ∙ form-part v good (time_long (length v)) (ap time_long (sym g) ∙ h)))

    pub time-formed : time_long good ≡ true → bad_time v ≡ none
    time-formed h = by-run ∙ form-well v good (time_long (length v)) g (ap time_long (sym g) ∙ h)

pub time-ranged : (v : List ℕ) → bad_time v ≡ none → time_checked v ≡ cond (time_fits v) (Ok tt) (Err Range)
unfolding time_checked
time-ranged v e = ap (λ (o : Option ℕ). checked o (time_fits v)) e

-- ---- the number of four digits, from those of two and two
pub year-at : (v : List ℕ) → 4 ≤ length v → number_on 0 2 v * 100 + number_on 2 2 v ≡ number_on 0 4 v
year-at [] h = absurd (omega arith)
year-at (a ∷ []) h = absurd (omega arith)
year-at (a ∷ b ∷ []) h = absurd (omega arith)
year-at (a ∷ b ∷ c ∷ []) h = absurd (omega arith)
year-at (a ∷ b ∷ c ∷ d ∷ v) h = omega arith

-- the day by the pairs of its digits
pub day-read : (v : List ℕ) → 17 ≤ length v → (c y m d : ℕ) → c ≡ number_on 0 2 v → y ≡ number_on 2 2 v → m ≡ number_on 4 2 v → d ≡ number_on 6 2 v
    → is_day (c * 100 + y) m d ≡ is_day (number_on 0 4 v) (number_on 4 2 v) (number_on 6 2 v)
day-read v h c y m d ec ey em ed = rw (ec, ey, em, ed, year-at v (omega arith)) refl

-- ---- two digits that stand where a time has two
module _ (v : List ℕ) (at r : ℕ) (e : Some r ≡ pair_on at v) where
  pub pair-there : (two_digits at v ≡ true) × (r ≡ number_on at 2 v)
  pair-there = of-cond (λ o. Some r ≡ o → (two_digits at v ≡ true) × (r ≡ number_on at 2 v)) (two_digits at v) (λ t f. (t, cc)) (λ t f. cc) e

  pub pair-like : at + 2 ≤ 21 → at + 2 ≤ length v → two_digits at time_pattern ≡ true → like_from at v ≡ 2 + like_from (at + 2) v
  pair-like hp hv d =
      let p = and_both (between 48 57 (get_or time_pattern at 0)) (between 48 57 (get_or time_pattern (at + 1) 0)) d in
      let q = and_both (between 48 57 (get_or v at 0)) (between 48 57 (get_or v (at + 1) 0)) pair-there.0 in
      let k : at + 1 + 1 ≡ at + 2 = omega arith in
      let a = like-go time_pattern v at (omega arith) (omega arith) (cond-true _ _ _ p.0 ∙ q.0) in
      let b = like-go time_pattern v (at + 1) (omega arith) (omega arith) (cond-true _ _ _ p.1 ∙ q.1) in
      omega (arith, a, rw k at b)

-- the day and the clock by their pairs
module _ (v : List ℕ) (l : 17 ≤ length v) where
  pub day-plain : (c y m d : ℕ) → Some c ≡ pair_on 0 v → Some y ≡ pair_on 2 v → Some m ≡ pair_on 4 v → Some d ≡ pair_on 6 v → is_day (c * 100 + y) m d ≡ true → PlainDay v
  day-plain c y m d ec ey em ed t =
      let p = pair-like v 0 c ec (omega arith) (omega arith) refl in
      let q = pair-like v 2 y ey (omega arith) (omega arith) refl in
      let r = pair-like v 4 m em (omega arith) (omega arith) refl in
      let s = pair-like v 6 d ed (omega arith) (omega arith) refl in (
        omega arith,
        sym (day-read v l c y m d (pair-there v 0 c ec).1 (pair-there v 2 y ey).1 (pair-there v 4 m em).1 (pair-there v 6 d ed).1) ∙ t,
      )

  pub clock-plain : get_or v 8 0 ≡ 45 → get_or v 11 0 ≡ 58 → get_or v 14 0 ≡ 58 → (h m s : ℕ) → Some h ≡ pair_on 9 v → Some m ≡ pair_on 12 v → Some s ≡ pair_on 15 v → is_clock h m s ≡ true → PlainClock v
  clock-plain a b c h m s eh em es t =
      let i = like-go time_pattern v 8 (omega arith) (omega arith) (eq-eqb 45 _ (sym a)) in
      let p = pair-like v 9 h eh (omega arith) (omega arith) refl in
      let j = like-go time_pattern v 11 (omega arith) (omega arith) (eq-eqb 58 _ (sym b)) in
      let q = pair-like v 12 m em (omega arith) (omega arith) refl in
      let n = like-go time_pattern v 14 (omega arith) (omega arith) (eq-eqb 58 _ (sym c)) in
      let r = pair-like v 15 s es (omega arith) (omega arith) refl in
      (omega arith, rw (← (pair-there v 9 h eh).1, ← (pair-there v 12 m em).1, ← (pair-there v 15 s es).1) t)

-- ---- what it means that a time was read
pub time-lengths : (v : List ℕ) → bad_time v ≡ none → (length v ≡ 17) ⊎ (length v ≡ 21)
unfolding bad_time
time-lengths v e =
    ⊎_elim (λ p. inl (eqb-true (length v) 17 p)) (λ p. inr (eqb-true (length v) 21 p))
    (or_cases (eqb (length v) 17) (eqb (length v) 21) (form-good v (like_run time_pattern v) (time_long (length v)) e).1)

pub record TimeGood (v : List ℕ) : Type 0 where
  pub formed : bad_time v ≡ none
  pub fits : time_fits v ≡ true
  pub time : is_time v ≡ true
  pub lengths : (length v ≡ 17) ⊎ (length v ≡ 21)

of_parts : (v : List ℕ) → bad_time v ≡ none → time_fits v ≡ true → is_time v ≡ true
of_parts v e f = and-make (is_none (bad_time v)) (time_fits v) (ap is_none e) f

pub time-good : (v : List ℕ) → time_checked v ≡ Ok tt → TimeGood v
unfolding time_checked
time-good v e =
    let p = checked-good (bad_time v) (time_fits v) e in
    record { formed = p.0; fits = p.1; time = of_parts v p.0 p.1; lengths = time-lengths v p.0 }

pub time-bad : (v : List ℕ) (at : ℕ) → time_checked v ≡ Err (Form at) → bad_time v ≡ some at
unfolding time_checked
time-bad v at e = checked-bad (bad_time v) (time_fits v) at e

pub time-out : (v : List ℕ) → time_checked v ≡ Err Range → (bad_time v ≡ none) × (time_fits v ≡ false)
unfolding time_checked
time-out v e = checked-out (bad_time v) (time_fits v) e

none_is : (o : Option ℕ) → is_none o ≡ true → o ≡ none
none_is none e = refl
none_is (some at) e = absurd (let z : ◌≡◌ {A = ℕ} 0 1 = cc in omega arith)

pub time-is : (v : List ℕ) → is_time v ≡ true → TimeGood v
time-is v e =
    let p = and_both (is_none (bad_time v)) (time_fits v) e in
    let f = none_is (bad_time v) p.0 in
    record { formed = f; fits = p.1; time = e; lengths = time-lengths v f }

-- it has digits and marks alone
pub time-bytes : (v : List ℕ) → is_time v ≡ true → all_in 45 58 v ≡ true
unfolding bad_time
time-bytes v e = like-all time_pattern v (form-good v (like_run time_pattern v) (time_long (length v)) (time-is v e).formed).0 refl

pub time-read : (v : List ℕ) → is_time v ≡ true → time_checked v ≡ Ok tt
time-read v e = let t = time-is v e in time-ranged v t.formed ∙ cond-true (time_fits v) (Ok tt) (Err Range) t.fits

-- a time with .mmm by its parts
pub time-plain : (v : List ℕ) → length v ≡ 21 → get_or v 17 0 ≡ 46 → (n : ℕ) → Some n ≡ pair_on 18 v → between 48 57 (get_or v 20 0) ≡ true → PlainDay v → PlainClock v → is_time v ≡ true
unfolding time_fits
time-plain v l m n e b d c =
    let i = like-go time_pattern v 17 (omega arith) (omega arith) (eq-eqb 46 _ (sym m)) in
    let p = pair-like v 18 n e (omega arith) (omega arith) refl in
    let j = like-go time_pattern v 20 (omega arith) (omega arith) b in
    let e : 21 ≡ like_run time_pattern v = omega (arith, like-done time_pattern v 21 (omega arith)) in
    of_parts v (time-formed v 21 e (sym l) refl) (and-make _ _ d.1 c.1)

-- ---- "one of 17 bytes gets .000"
module _ (t w : List ℕ) (l : length t ≡ 17) where
  number-first : (at n : ℕ) → at + n ≤ 17 → number_on at n (t ++ w) ≡ number_on at n t
  number-first at n h = ap digits (part-first at n t w (omega arith))

  fits-first : time_fits (t ++ w) ≡ time_fits t
  unfolding time_fits
  fits-first =
      rw (number-first 0 4 (omega arith), number-first 4 2 (omega arith), number-first 6 2 (omega arith), number-first 9 2 (omega arith), number-first 12 2 (omega arith), number-first 15 2 (omega arith))

pub time-filled : (t : List ℕ) → is_time t ≡ true → length t ≡ 17 → is_time (t ++ bytes_of ".000") ≡ true
unfolding bad_time
time-filled t e l =
    let w = bytes_of ".000" in
    let g = (form-good t (like_run time_pattern t) (time_long (length t)) (time-is t e).formed).0 in
    let n : length (t ++ w) ≡ 21 = length-append t w ∙ ap (λ (k : ℕ). k + 4) l in
    let r : like_run time_pattern (t ++ w) ≡ 21 = like-append time_pattern t w g ∙ rw l in
    of_parts (t ++ w) (form-well (t ++ w) (like_run time_pattern (t ++ w)) (time_long (length (t ++ w))) (r ∙ sym n) (ap time_long n))
    (fits-first t w l ∙ (time-is t e).fits)

-- a time as a note has it
pub time-full : (t : List ℕ) → is_time t ≡ true → (is_time (cond (eqb (length t) 17) (t ++ bytes_of ".000") t) ≡ true) × (length (cond (eqb (length t) 17) (t ++ bytes_of ".000") t) ≡ 21)
time-full t e =
    of-cond (λ (s : List ℕ). (is_time s ≡ true) × (length s ≡ 21)) (eqb (length t) 17)
    (λ h. (let l = eqb-true (length t) 17 h in (time-filled t e l, length-append t (bytes_of ".000") ∙ ap (λ (k : ℕ). k + 4) l)))
    (λ h. (e, ⊎_elim (λ (l : length t ≡ 17). contrary (eq-eqb (length t) 17 l) h) (λ l. l) (time-is t e).lengths))

-- ---- what the reader answers, as a test
pub time-ok : (form : Option ℕ) (fits : Bool) → is_ok (checked form fits) ≡ (is_none form && fits)
time-ok (some at) fits = refl
time-ok none true = refl
time-ok none false = refl
