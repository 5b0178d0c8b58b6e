-- Numbers: what reading makes of the digits at the front, what it means that a number was read, and which values are numbers.
--     number-good, number-bad, number-out     what each answer means
--     numeral, numeral-formed     a value is well formed as a number exactly where it is of digits only, 1 to 9
--     exactly, exactly-formed     and as one of exactly n digits exactly where it is of digits only, so many
--     exactly-bad, exactly-good     what reading makes of them
--     number_read_lem     a numeral in range is read
--     number-or, number-or-small     the number of a well-formed value, and its bound
use mathlib.Core.Path.{◌≡◌, refl, sym, ap, ◌∙◌}
use mathlib.Core.Logic.{◌⊎◌, ⊎_elim}
use mathlib.Core.List.{List}
use mathlib.Core.Option.{Option, none, some}
use mathlib.Core.Bool.{Bool, true, false, cond}
use Prim.Native.Nat.{ℕ, ◌≤◌, ◌<◌, ◌^◌, min}
use native.Mathlib.Omega.{arith}
use lib.ListN.{length, take}
use lib.Seq.{take_all, length-take-le}
use lib.Dec.{lit<, leb}
use borrow.Author.Tests.{le-leb, lt-leb, eq-eqb, leb-true}
use Rattle.octet.specs.Bytes.{between}
use Rattle.octet.proofs.Cases.{cond-true, cond-false}
use Rattle.octet.proofs.Places.{below-pow}
use Rattle.octet.proofs.Lists.{is-between, is_below, is-above, between-low, between-high, run-all, run-is-all, run-most}
use Rattle.text.specs.Decimal.{digits, digit_run, digits_taken, digits_at_front}
use Rattle.text.specs.declared.Digits.{Digits}
use Rattle.text.proofs.ReadLaws.{digits-below, front-in}
use Rattle.value.specs.Value.{well_formed, bad_number, bad_digits, number_or}
use Rattle.value.specs.Place.{Numeral, NumberForm}
use Rattle.value.specs.Readers.{checked, numbered, number_read, exactly_checked}
use Rattle.std.specs.Prelude.{Result, Ok, Err}
use Rattle.value.specs.declared.Flaw.{Flaw}
use Rattle.value.specs.declared.Flaw.TheVariants.{Form, Range}
use Rattle.value.proofs.Forms.{form-short, form-part, form-well, form-good}

abbrev judged : ℕ → ℕ → List ℕ → Option ℕ → Result ℕ Flaw
judged low high v form = numbered v form (between low high (digits v))

-- the first k bytes, where so many digits stand at the front, write a number of k digits
pub front_below : (k m : ℕ) (s : List ℕ) → k ≤ digit_run s → k ≤ m → digits (take k s) < 10 ^ m
front_below k m s h l =
    let e : length (take k s) ≡ k = length-take-le k s (omega (arith, run-most 48 57 s)) in
    below-pow 10 m (lit< tt) (digits-below (take k s) (front-in k s h)) (omega arith)

-- and they are digits only, so many
pub front-numeral : (low high k : ℕ) (s : List ℕ) → k ≤ digit_run s → low ≤ k → k ≤ high → Numeral low high (take k s)
front-numeral low high k s h l m =
    let e : length (take k s) ≡ k = length-take-le k s (omega (arith, run-most 48 57 s)) in
    record { only = front-in k s h; least = omega arith; most = omega arith }

-- ---- the digits d at the front of v
module _ (v : List ℕ) (d : Digits) (e : d ≡ digits_at_front 9 v) where
  taken : d.len ≡ min 9 (digit_run v)
  unfolding digits_at_front
  taken = ap (λ (x : Digits). x.len) e

  by_front : bad_number v ≡ well_formed v d.len (leb 1 (length v))
  unfolding bad_number
  by_front = sym (ap (λ (n : ℕ). well_formed v n (leb 1 (length v))) taken)

  pub number_short : (low high : ℕ) → (d.len ≡ length v → ⊥) → Err (Form d.len) ≡ number_read low high v
  unfolding number_read
  number_short low high h = sym (ap (judged low high v) (by_front ∙ form-short v d.len (leb 1 (length v)) h))

  pub number-empty : (low high : ℕ) → d.len ≡ length v → d.len < 1 → Err (Form d.len) ≡ number_read low high v
  unfolding number_read
  number-empty low high h l =
      sym (ap (judged low high v) (by_front ∙ form-part v d.len (leb 1 (length v)) (lt-leb 1 (length v) (omega arith))))

  module _ (h : d.len ≡ length v) (l : 1 ≤ d.len) where
    formed : bad_number v ≡ none
    formed = by_front ∙ form-well v d.len (leb 1 (length v)) h (le-leb 1 (length v) (omega arith))

    whole : d.value ≡ digits v
    unfolding digits_at_front
    whole = ap (λ (x : Digits). x.value) e ∙ ap digits (take_all (digits_taken 9 v) v (omega (arith, taken)))

    by-range : (low high : ℕ) → number_read low high v ≡ cond (between low high d.value) (Ok d.value) (Err Range)
    unfolding number_read
    by-range low high = ap (judged low high v) formed ∙ ap (λ (n : ℕ). cond (between low high n) (Ok n) (Err Range)) (sym whole)

    pub number-in : (low high : ℕ) → low ≤ d.value → d.value ≤ high → Ok d.value ≡ number_read low high v
    number-in low high a b = sym (by-range low high ∙ cond-true _ _ _ (is-between low high d.value a b))

    pub number-below : (low high : ℕ) → d.value < low → Err Range ≡ number_read low high v
    number-below low high a = sym (by-range low high ∙ cond-false _ _ _ (is_below low high d.value a))

    pub number-above : (low high : ℕ) → high < d.value → Err Range ≡ number_read low high v
    number-above low high a = sym (by-range low high ∙ cond-false _ _ _ (is-above low high d.value a))

-- ---- which values are digits only, so many
module _ (low high : ℕ) (v : List ℕ) where
  only-digits : well_formed v (min high (digit_run v)) (leb low (length v)) ≡ none → Numeral low high v
  only-digits e =
      let p = form-good v (min high (digit_run v)) (leb low (length v)) e in
      let h : digit_run v ≡ length v = omega (arith, p.0, run-most 48 57 v) in
      record {
        only = sym (run-is-all 48 57 v) ∙ eq-eqb _ _ h;
        least = leb-true low (length v) p.1;
        most = omega (arith, p.0);
      }

  digits-only : Numeral low high v → well_formed v (min high (digit_run v)) (leb low (length v)) ≡ none
  digits-only n =
      let h : min high (digit_run v) ≡ length v = omega (arith, run-all 48 57 v n.only, n.most) in
      form-well v (min high (digit_run v)) (leb low (length v)) h (le-leb low (length v) n.least)

pub numeral : (v : List ℕ) → bad_number v ≡ none → NumberForm v
unfolding bad_number
numeral v e = only-digits 1 9 v e

pub numeral-formed : (v : List ℕ) → NumberForm v → bad_number v ≡ none
unfolding bad_number
numeral-formed v n = digits-only 1 9 v n

pub exactly : (n : ℕ) (v : List ℕ) → bad_digits n v ≡ none → Numeral n n v
unfolding bad_digits
exactly n v e = only-digits n n v e

pub exactly-formed : (n : ℕ) (v : List ℕ) → Numeral n n v → bad_digits n v ≡ none
unfolding bad_digits
exactly-formed n v d = digits-only n n v d

-- ---- exactly n digits, where r digits stand at the front
module _ (n : ℕ) (v : List ℕ) (r : ℕ) (e : r ≡ digit_run v) where
  exactly-by : (good : ℕ) (form : Option ℕ) → min n r ≡ good → well_formed v good (leb n (length v)) ≡ form → checked form true ≡ exactly_checked n v
  unfolding exactly_checked bad_digits
  exactly-by good form h f = sym (ap (λ (k : ℕ). checked (well_formed v k (leb n (length v))) true) (ap (min n) (sym e) ∙ h) ∙ ap (λ (o : Option ℕ). checked o true) f)

  -- of these so many are taken
  module _ (taken : ℕ) (t : taken ≡ min r n) where
    pub exactly-bad : (taken ≡ length v → ⊥) ⊎ ((taken ≡ length v) × (taken < n)) → Err (Form taken) ≡ exactly_checked n v
    exactly-bad =
        ⊎_elim
        (λ h. exactly-by taken (some taken) (omega arith) (form-short v taken (leb n (length v)) h))
        (λ h. (let k = h.0 in let l = h.1 in exactly-by taken (some taken) (omega arith) (form-part v taken (leb n (length v)) (lt-leb n (length v) (omega arith)))))

    pub exactly-good : taken ≡ length v → n ≤ taken → Ok tt ≡ exactly_checked n v
    exactly-good k l = exactly-by taken none (omega arith) (form-well v taken (leb n (length v)) k (le-leb n (length v) (omega arith)))

pub numeral-small : (v : List ℕ) → NumberForm v → digits v ≤ 999999999
numeral-small v n =
    let h : digits v < 10 ^ 9 = below-pow 10 9 (lit< tt) (digits-below v n.only) n.most in
    omega arith

-- ---- what each answer means
pub record NumberGood (low high : ℕ) (v : List ℕ) (n : ℕ) : Type 0 where
  pub formed : bad_number v ≡ none
  pub numeral : NumberForm v
  pub number : digits v ≡ n
  pub least : low ≤ n
  pub most : n ≤ high
  pub small : n ≤ 999999999

answer-good : (n : ℕ) (v : List ℕ) (form : Option ℕ) (fits : Bool) → numbered v form fits ≡ Ok n → (form ≡ none) × (fits ≡ true) × (digits v ≡ n)
answer-good n v (some at) fits e = absurd (let z : ◌≡◌ {A = ℕ} 0 1 = cc in omega arith)
answer-good n v none true e = (refl, refl, cc)
answer-good n v none false e = absurd (let z : ◌≡◌ {A = ℕ} 0 1 = cc in omega arith)

answer-bad : (at : ℕ) (v : List ℕ) (form : Option ℕ) (fits : Bool) → numbered v form fits ≡ Err (Form at) → form ≡ some at
answer-bad at v (some place) fits e = cc
answer-bad at v none true e = absurd (let z : ◌≡◌ {A = ℕ} 0 1 = cc in omega arith)
answer-bad at v none false e = absurd (let z : ◌≡◌ {A = ℕ} 0 1 = cc in omega arith)

answer-out : (v : List ℕ) (form : Option ℕ) (fits : Bool) → numbered v form fits ≡ Err Range → (form ≡ none) × (fits ≡ false)
answer-out v (some at) fits e = absurd (let z : ◌≡◌ {A = ℕ} 0 1 = cc in omega arith)
answer-out v none true e = absurd (let z : ◌≡◌ {A = ℕ} 0 1 = cc in omega arith)
answer-out v none false e = (refl, refl)

pub number-good : (low high : ℕ) (v : List ℕ) (n : ℕ) → number_read low high v ≡ Ok n → NumberGood low high v n
unfolding number_read
number-good low high v n e =
    let p = answer-good n v (bad_number v) (between low high (digits v)) e in
    let q : digits v ≡ n = p.2 in
    let l = numeral v p.0 in
    record {
      formed = p.0;
      numeral = l;
      number = q;
      least = omega (arith, between-low low high (digits v) p.1);
      most = omega (arith, between-high low high (digits v) p.1);
      small = omega (arith, numeral-small v l);
    }

pub number-bad : (low high : ℕ) (v : List ℕ) (at : ℕ) → number_read low high v ≡ Err (Form at) → bad_number v ≡ some at
unfolding number_read
number-bad low high v at e = answer-bad at v (bad_number v) (between low high (digits v)) e

pub number-out : (low high : ℕ) (v : List ℕ) → number_read low high v ≡ Err Range → (bad_number v ≡ none) × (between low high (digits v) ≡ false)
unfolding number_read
number-out low high v e = answer-out v (bad_number v) (between low high (digits v)) e

-- ---- a numeral in range is read
pub number_read_lem : (low high : ℕ) (v : List ℕ) → bad_number v ≡ none → low ≤ digits v → digits v ≤ high → number_read low high v ≡ Ok (digits v)
unfolding number_read
number_read_lem low high v e a b =
    ap (judged low high v) e ∙ cond-true (between low high (digits v)) _ _ (is-between low high (digits v) a b)

-- ---- the number of a value that is one
pub number-or : (v : List ℕ) → bad_number v ≡ none → number_or v ≡ digits v
unfolding number_or
number-or v e =
    let n = numeral v e in
    ap digits (take_all (digits_taken 9 v) v (omega (arith, run-all 48 57 v n.only, n.most)))

pub number-or-small : (v : List ℕ) → number_or v ≤ 999999999
unfolding number_or
number-or-small v =
    let h : digits (take (digits_taken 9 v) v) < 10 ^ 9 = front_below (digits_taken 9 v) 9 v (omega arith) (omega arith) in
    omega arith
