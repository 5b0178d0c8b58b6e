-- Prices: what reading makes of the digits before and after a point, what it means that a price was read, and which values are prices.
--     price-good, price-bad     what each answer means
--     price-small     seven digits and four decimals at most
--     whole_part, after-point, point-part     digits, a point, and what follows it
--     price-formed, price-parts     digits, a point and digits are a price, and which
--     price-form, price-well     a value is well formed as a price exactly where it is of the form
use mathlib.Core.Path.{◌≡◌, refl, sym, ap, ◌∙◌, subst}
use mathlib.Core.Logic.{inl, inr, ⊎_elim}
use mathlib.Core.List.{List, ◌∷◌, ◌++◌}
use mathlib.Core.Option.{Option, none, some}
use mathlib.Core.Bool.{Bool, true, false, cond}
use Prim.Native.Nat.{ℕ, suc, ◌+◌, ◌-◌, ◌*◌, ◌^◌, ◌≤◌, ◌<◌, min}
use native.Mathlib.Nat.{add-zero, one-le-pow, mul-lt-mul_of_pos_right}
use native.Mathlib.Omega.{arith}
use lib.ListN.{length, take, drop, get_or, length-append, get_or-eq_default}
use lib.Seq.{take-append_seam, drop-append-add, get_or-append_seam, take-length, take_all, take-add}
use lib.Dec.{lit<, leb, eqb}
use lib.Pow.{pow-add}
use borrow.Author.Tests.{le-leb, leb-true, eq-eqb, eqb-true}
use Rattle.octet.specs.Bytes.{part}
use Rattle.octet.proofs.Cases.{of-cond, le-or-lt, and_left, and_right, and-make}
use Rattle.octet.proofs.Lists.{drop-step, run-all, run-before}
use Rattle.text.specs.Decimal.{digits, digit_run, digits_at_front}
use Rattle.text.specs.declared.Digits.{Digits}
use Rattle.value.specs.Value.{well_formed, wholes, point_at, pointed, decimals, bad_price, price_in}
use Rattle.value.specs.Place.{Numeral, PriceForm}
use Rattle.value.specs.Readers.{priced, price_front, price_read}
use Rattle.value.specs.declared.Front.{Front}
use Rattle.std.specs.Prelude.{Ok, Err}
use Rattle.value.specs.declared.Flaw.TheVariants.{Form}
use Rattle.value.proofs.Forms.{form-short, form-part, form-well, form-good}
use Rattle.value.proofs.Numbers.{front_below, front-numeral}

-- a point is a byte of the value
pub point-inside : (n : ℕ) (v : List ℕ) → point_at n v ≡ true → n < length v
point-inside n v h =
    ⊎_elim
    (λ l. absurd (omega (arith, get_or-eq_default v 0 l, eqb-true (get_or v n 0) 46 (and_right (leb 1 n) (eqb (get_or v n 0) 46) h))))
    (λ l. l)
    (le-or-lt (length v) n)

-- ---- the digits d at the front of v, and the digits r after a point
module _ (v : List ℕ) (d : Digits) (e : d ≡ digits_at_front 7 v) where
  pub front-plain : point_at d.len v ≡ false → record { good = d.len; complete = leb 1 d.len; price = d.value * 10000 } ≡ price_front v
  unfolding price_front price_in digits_at_front
  front-plain h = let g : pointed v ≡ false = rw e at h in rw e (simp (g, add-zero))

  pub front-pointed : (r : Digits) (s : ℕ) → r ≡ digits_at_front 4 (drop (d.len + 1) v) → s ≡ 10 ^ (4 - r.len) → point_at d.len v ≡ true
      → record { good = d.len + 1 + r.len; complete = leb 1 r.len; price = d.value * 10000 + r.value * s } ≡ price_front v
  unfolding price_front price_in digits_at_front
  front-pointed r s f t h = let g : pointed v ≡ true = rw e at h in rw (t, f, e) (simp g)

-- ---- a value's front f
form-cond : (v : List ℕ) (t : Bool) (a b : ℕ) (p q : Bool) → cond t (well_formed v a p) (well_formed v b q) ≡ well_formed v (cond t a b) (cond t p q)
form-cond v true a b p q = refl
form-cond v false a b p q = refl

module _ (v : List ℕ) (f : Front) (e : f ≡ price_front v) where
  pub by_front : bad_price v ≡ well_formed v f.good f.complete
  unfolding bad_price price_front
  by_front =
      form-cond v (pointed v) (wholes v + 1 + decimals v) (wholes v) (leb 1 (decimals v)) (leb 1 (wholes v))
      ∙ sym (ap (λ (x : Front). well_formed v x.good x.complete) e)

  pub price-short : (f.good ≡ length v → ⊥) → Err (Form f.good) ≡ price_read v
  unfolding price_read
  price-short h = sym (ap (priced v) (by_front ∙ form-short v f.good f.complete h))

  pub price-part : f.complete ≡ false → Err (Form f.good) ≡ price_read v
  unfolding price_read
  price-part h = sym (ap (priced v) (by_front ∙ form-part v f.good f.complete h))

  pub price-front : f.price ≡ price_in v
  unfolding price_front
  price-front = ap (λ (x : Front). x.price) e

  pub price-whole : f.good ≡ length v → f.complete ≡ true → Ok f.price ≡ price_read v
  unfolding price_read
  price-whole g h = ap Ok price-front ∙ sym (ap (priced v) (by_front ∙ form-well v f.good f.complete g h))

-- ---- a price has seven digits and four decimals at most
scaled-below : (k a : ℕ) → k ≤ 4 → a < 10 ^ k → a * 10 ^ (4 - k) < 10 ^ 4
scaled-below k a l h =
    let e : k + (4 - k) ≡ 4 = omega arith in
    subst (λ (n : ℕ). a * 10 ^ (4 - k) < n) (sym (pow-add 10 k (4 - k)) ∙ ap (λ (n : ℕ). 10 ^ n) e)
    (mul-lt-mul_of_pos_right h (one-le-pow (4 - k) 10 (lit< tt)))

pub price-small : (v : List ℕ) → price_in v ≤ 99999999999
unfolding price_in
price-small v =
    let rest = drop (wholes v + 1) v in
    let w : digits (take (wholes v) v) < 10 ^ 7 = front_below (wholes v) 7 v (omega arith) (omega arith) in
    let d : digits (take (decimals v) rest) < 10 ^ decimals v = front_below (decimals v) (decimals v) rest (omega arith) (omega arith) in
    let s = scaled-below (decimals v) (digits (take (decimals v) rest)) (omega arith) d in
    of-cond (λ (n : ℕ). digits (take (wholes v) v) * 10000 + n ≤ 99999999999) (pointed v) (λ h. omega arith) (λ h. omega arith)

-- ---- what each answer means
pub record PriceGood (v : List ℕ) (p : ℕ) : Type 0 where
  pub formed : bad_price v ≡ none
  pub price : price_in v ≡ p
  pub small : p ≤ 99999999999

answer-good : (p : ℕ) (v : List ℕ) (form : Option ℕ) → priced v form ≡ Ok p → (form ≡ none) × (price_in v ≡ p)
answer-good p v (some at) e = absurd (let z : ◌≡◌ {A = ℕ} 0 1 = cc in omega arith)
answer-good p v none e = (refl, cc)

pub price-good : (v : List ℕ) (p : ℕ) → price_read v ≡ Ok p → PriceGood v p
unfolding price_read
price-good v p e =
    let q = answer-good p v (bad_price v) e in
    let n : price_in v ≡ p = q.1 in
    record { formed = q.0; price = n; small = omega (arith, price-small v) }

answer-bad : (at : ℕ) (v : List ℕ) (form : Option ℕ) → priced v form ≡ Err (Form at) → form ≡ some at
answer-bad at v (some place) e = cc
answer-bad at v none e = absurd (let z : ◌≡◌ {A = ℕ} 0 1 = cc in omega arith)

pub price-bad : (v : List ℕ) (at : ℕ) → price_read v ≡ Err (Form at) → bad_price v ≡ some at
unfolding price_read
price-bad v at e = answer-bad at v (bad_price v) e

pub price-read : (v : List ℕ) → bad_price v ≡ none → price_read v ≡ Ok (price_in v)
unfolding price_read
price-read v e = ap (priced v) e

-- ---- digits, a point, and what follows it
module _ (x y : List ℕ) (m : Numeral 1 7 x) where
  pub whole_part : wholes (x ++ 46 ∷ y) ≡ length x
  whole_part = omega (arith, run-before 48 57 x 46 y m.only refl, m.most)

  pub after-point : drop (wholes (x ++ 46 ∷ y) + 1) (x ++ 46 ∷ y) ≡ y
  after-point = ap (λ (n : ℕ). drop (n + 1) (x ++ 46 ∷ y)) whole_part ∙ drop-append-add x (46 ∷ y) 1

  pub point-part : pointed (x ++ 46 ∷ y) ≡ true
  point-part =
      ap (λ (n : ℕ). point_at n (x ++ 46 ∷ y)) whole_part
      ∙ and-make (leb 1 (length x)) (eqb (get_or (x ++ 46 ∷ y) (length x) 0) 46) (le-leb 1 (length x) m.least) (eq-eqb _ 46 (get_or-append_seam x 46 y 0))

-- digits follow it
module _ (x y : List ℕ) (m : Numeral 1 7 x) (n : Numeral 1 4 y) where
  decimal-part : decimals (x ++ 46 ∷ y) ≡ length y
  decimal-part = ap (λ (l : List ℕ). min 4 (digit_run l)) (after-point x y m) ∙ omega (arith, run-all 48 57 y n.only, n.most)

  pub price-formed : bad_price (x ++ 46 ∷ y) ≡ none
  unfolding bad_price
  price-formed =
      let l : length (x ++ 46 ∷ y) ≡ length x + suc (length y) = length-append x (46 ∷ y) in
      rw (point-part x y m)
      (form-well (x ++ 46 ∷ y) (wholes (x ++ 46 ∷ y) + 1 + decimals (x ++ 46 ∷ y)) (leb 1 (decimals (x ++ 46 ∷ y)))
      (omega (arith, whole_part x y m, decimal-part)) (le-leb 1 (decimals (x ++ 46 ∷ y)) (omega (arith, decimal-part, n.least))))

  pub price-parts : price_in (x ++ 46 ∷ y) ≡ digits x * 10000 + digits y * 10 ^ (4 - length y)
  unfolding price_in
  price-parts = rw (point-part x y m) (rw (decimal-part, after-point x y m, whole_part x y m, take-append_seam, take-length))

-- ---- which values are prices

-- the bytes up to a point, and d after it
pub point-cut : (k d : ℕ) (v : List ℕ) → point_at k v ≡ true → take (k + 1 + d) v ≡ take k v ++ 46 ∷ part (k + 1) d v
point-cut k d v t =
    let n : k + 1 + d ≡ k + suc d = omega arith in
    let b : get_or v k 0 ≡ 46 = eqb-true (get_or v k 0) 46 (and_right (leb 1 k) (eqb (get_or v k 0) 46) t) in
    ap (λ (j : ℕ). take j v) n
    ∙ take-add k (suc d) v
    ∙ ap (λ (l : List ℕ). take k v ++ take (suc d) l) (drop-step v k (point-inside k v t) ∙ ap (λ (x : ℕ). x ∷ drop (k + 1) v) b)

-- the digits before a point, and those after it
pub wholes-numeral : (v : List ℕ) → pointed v ≡ true → Numeral 1 7 (take (wholes v) v)
wholes-numeral v t =
    front-numeral 1 7 (wholes v) v (omega arith) (leb-true 1 (wholes v) (and_left (leb 1 (wholes v)) (eqb (get_or v (wholes v) 0) 46) t)) (omega arith)

pub decimals-numeral : (v : List ℕ) (low : ℕ) → low ≤ decimals v → Numeral low 4 (part (wholes v + 1) (decimals v) v)
decimals-numeral v low l = front-numeral low 4 (decimals v) (drop (wholes v + 1) v) (omega arith) l (omega arith)

pub price-form : (v : List ℕ) → bad_price v ≡ none → PriceForm v
unfolding bad_price
price-form v =
    let w : ℕ = wholes v in
    let d : ℕ = decimals v in
    of-cond (λ (o : Option ℕ). o ≡ none → PriceForm v) (pointed v)
    (λ t f. let g = form-good v (w + 1 + d) (leb 1 d) f in
    inr (record {
      wholes = take w v;
      decimals = part (w + 1) d v;
      parts = sym (take_all (w + 1 + d) v (omega (arith, g.0))) ∙ point-cut w d v t;
      before = wholes-numeral v t;
      after = decimals-numeral v 1 (leb-true 1 d g.1);
    }))
    (λ t f. let g = form-good v w (leb 1 w) f in
    inl (subst (Numeral 1 7) (take_all w v (omega (arith, g.0))) (front-numeral 1 7 w v (omega arith) (leb-true 1 w g.1) (omega arith))))

-- digits alone
plain-formed : (v : List ℕ) → Numeral 1 7 v → bad_price v ≡ none
unfolding bad_price
plain-formed v n =
    let w : wholes v ≡ length v = omega (arith, run-all 48 57 v n.only, n.most) in
    of-cond (λ (o : Option ℕ). o ≡ none) (pointed v)
    (λ t. absurd (omega (arith, point-inside (wholes v) v t)))
    (λ t. form-well v (wholes v) (leb 1 (wholes v)) w (le-leb 1 (wholes v) (omega (arith, n.least))))

pub price-well : (v : List ℕ) → PriceForm v → bad_price v ≡ none
price-well v = ⊎_elim (plain-formed v) (λ p. ap bad_price p.parts ∙ price-formed p.wholes p.decimals p.before p.after)
