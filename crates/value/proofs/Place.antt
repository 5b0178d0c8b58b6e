-- Where a value fails its form.
--     one_place, missing     over any form: the place is one, and it is the value's length exactly where bytes are missing
--     reader-places     a reader says that place: which facts it takes
--     number-places, exactly-places, price-places, time-places, graph-places     the five forms' tests say it
--     read-number-places, read-exactly-places, read-price-places, read-time-places, read-graph-places     and so do the answers of the five readers
use mathlib.Core.Path.{◌≡◌, refl, sym, ap, ◌∙◌, subst}
use mathlib.Core.Logic.{◌↔◌, inl, inr, ⊎_elim}
use mathlib.Core.List.{List, [], ◌∷◌, ◌++◌, append-nil, append_assoc}
use mathlib.Core.Option.{Option, none, some}
use mathlib.Core.Bool.{Bool, true, false}
use Prim.Native.Nat.{ℕ, suc, ◌+◌, ◌-◌, ◌≤◌, ◌<◌, min}
use native.Mathlib.Omega.{arith}
use lib.ListN.{length, take, drop, replicate, length-append, length-replicate, length-drop, take-append-drop}
use lib.Seq.{take-length, length-take-le, take_at, take-append-le, take-append-add}
use lib.Dec.{leb}
use Rattle.octet.specs.Bytes.{bytes_of, between, all_in, run_in, part}
use Rattle.octet.proofs.Cases.{le-or-lt, of-cond, and_left, and-make}
use Rattle.octet.proofs.Lists.{all_in-append, all_in-take, run-most, run_in_lem, run-reach}
use Rattle.octet.proofs.Padded.{all_in-replicate}
use Rattle.text.specs.Decimal.{digits, digit_run}
use Rattle.text.proofs.ReadLaws.{run-append}
use Rattle.value.specs.Value.{well_formed, bad_number, bad_digits, bad_graph, wholes, pointed, decimals, bad_price, like_run, time_pattern, time_long, bad_time, time_fits}
use Rattle.value.specs.Place.{Begins, FailsAt, Places, Numeral, NumberForm, PriceForm, like_all, TimeForm, GraphForm}
use Rattle.value.specs.Readers.{check_place, number_place, price_place, checked, numbered, priced, number_read, exactly_checked, price_front, price_read, time_checked, graph_checked}
use Rattle.value.proofs.Forms.{form-well, form-good, form-at}
use Rattle.value.proofs.Like.{like-most, like-rest, like-reach, like-run, like-size, like-whole}
use Rattle.value.proofs.Numbers.{front-numeral, numeral, numeral-formed, exactly, exactly-formed}
use Rattle.value.proofs.Prices.{point-inside, by_front, whole_part, after-point, point-part, point-cut, wholes-numeral, decimals-numeral, price-form, price-well}
use Rattle.value.proofs.Times.{time-lengths}
use Rattle.value.proofs.Texts.{graph-only, graph-formed}

-- ---- over any form
module _ (Good : List ℕ → Type 0) where
  -- a value fails at one place
  pub one_place : (v : List ℕ) (p q : ℕ) → FailsAt Good v p → FailsAt Good v q → p ≡ q
  one_place v p q x y =
      ⊎_elim
      (λ (h : p ≤ q). ⊎_elim (λ (k : q ≤ p). omega arith) (λ (k : p < q). absurd (x.longest q k y.inside y.begins)) (le-or-lt q p))
      (λ (h : q < p). absurd (y.longest p h x.inside x.begins))
      (le-or-lt p q)

  -- it is the value's length exactly where bytes are missing
  pub missing : (v : List ℕ) (p : ℕ) → FailsAt Good v p → (p ≡ length v) ↔ Begins Good v
  missing v p x = (
    λ (e : p ≡ length v). subst (Begins Good) (ap (λ (n : ℕ). take n v) e ∙ take-length v) x.begins,
    λ (b : Begins Good v). ⊎_elim
        (λ (h : length v ≤ p). (let i = x.inside in omega arith))
        (λ (h : p < length v). absurd (x.longest (length v) h (omega arith) (subst (Begins Good) (sym (take-length v)) b)))
        (le-or-lt (length v) p),
  )

  -- a reader says it that finds the longest good beginning
  pub reader-places : (bad : List ℕ → Option ℕ) (good : List ℕ → ℕ) (complete : List ℕ → Bool)
      → ((v : List ℕ) → bad v ≡ well_formed v (good v) (complete v))
      → ((v : List ℕ) → (bad v ≡ none) ↔ Good v)
      → ((v : List ℕ) → good v ≤ length v)
      → ((v : List ℕ) → Begins Good (take (good v) v))
      → ((v : List ℕ) (n : ℕ) → n ≤ length v → Begins Good (take n v) → n ≤ good v)
      → Places Good bad
  reader-places bad good complete is formed inside begins longest = record {
    formed = formed;
    fails = λ v p. (at v p, λ x. back v p x (bad v) refl);
  }
    where
      at : (v : List ℕ) (p : ℕ) → bad v ≡ some p → FailsAt Good v p
      at v p e =
          subst (FailsAt Good v) (form-at v (good v) (complete v) p (sym (is v) ∙ e))
          (record {
            bad = λ g. (let f = sym e ∙ (formed v).1 g in let z : ◌≡◌ {A = ℕ} 0 1 = cc in omega arith);
            inside = inside v;
            begins = begins v;
            longest = λ n h l b. (let k = longest v n l b in omega arith);
          })

      back : (v : List ℕ) (p : ℕ) → FailsAt Good v p → (o : Option ℕ) → bad v ≡ o → bad v ≡ some p
      back v p x none e = absurd (x.bad ((formed v).0 e))
      back v p x (some q) e = e ∙ ap some (one_place v q p (at v q e) x)

-- ---- bytes of low to high
module _ (low high : ℕ) (v : List ℕ) (n : ℕ) (h : n ≤ length v) (rest : List ℕ) where
  -- as far as a beginning goes, the run goes
  front-reach : all_in low high (take n v ++ rest) ≡ true → n ≤ run_in low high v
  front-reach e = run-reach low high n v h (and_left (all_in low high (take n v)) (all_in low high rest) (sym (all_in-append low high (take n v) rest) ∙ e))

pub graph-places : Places GraphForm bad_graph
unfolding bad_graph
graph-places =
    reader-places GraphForm bad_graph (run_in 33 126) (λ v. true) (λ v. refl)
    (λ v. (graph-only v, graph-formed v))
    (run-most 33 126)
    (λ v. ([], ap (all_in 33 126) (append-nil (take (run_in 33 126 v) v)) ∙ run_in_lem 33 126 v))
    (λ v n h b. front-reach 33 126 v n h b.0 b.1)

-- ---- digits

-- no digits go on with one, others with nothing
digits-begin : (high : ℕ) (b : List ℕ) → 1 ≤ high → Numeral 0 high b → Begins (Numeral 1 high) b
digits-begin high [] l d = (48 ∷ [], record { only = refl; least = omega arith; most = l })
digits-begin high (x ∷ b) l d =
    ([], subst (Numeral 1 high) (sym (append-nil (x ∷ b))) (record { only = d.only; least = omega arith; most = d.most }))

-- a beginning of them is of the digits at the front
digits-reach : (low high : ℕ) (v : List ℕ) (n : ℕ) → n ≤ length v → Begins (Numeral low high) (take n v) → n ≤ min high (digit_run v)
digits-reach low high v n h b =
    let d = b.1 in
    let r = front-reach 48 57 v n h b.0 d.only in
    omega (arith, d.most, length-append (take n v) b.0, length-take-le n v h)

pub number-places : Places NumberForm bad_number
unfolding bad_number
number-places =
    reader-places NumberForm bad_number (λ v. min 9 (digit_run v)) (λ v. leb 1 (length v)) (λ v. refl)
    (λ v. (numeral v, numeral-formed v))
    (λ v. omega (arith, run-most 48 57 v))
    (λ v. digits-begin 9 _ (omega arith) (front-numeral 0 9 (min 9 (digit_run v)) v (omega arith) (omega arith) (omega arith)))
    (λ v n h b. digits-reach 1 9 v n h b)

-- digits go on with zeros
zeros-begin : (n : ℕ) (b : List ℕ) → Numeral 0 n b → Begins (Numeral n n) b
zeros-begin n b d =
    let z : List ℕ = replicate (n - length b) 48 in
    let l : length (b ++ z) ≡ n = omega (arith, length-append b z, length-replicate {A = ℕ} (n - length b) 48, d.most) in (
      z,
      record {
        only = all_in-append 48 57 b z ∙ and-make (all_in 48 57 b) (all_in 48 57 z) d.only (all_in-replicate 48 57 (n - length b) 48 refl);
        least = omega arith;
        most = omega arith;
      },
    )

pub exactly-places : (n : ℕ) → Places (Numeral n n) (bad_digits n)
unfolding bad_digits
exactly-places n =
    reader-places (Numeral n n) (bad_digits n) (λ v. min n (digit_run v)) (λ v. leb n (length v)) (λ v. refl)
    (λ v. (exactly n v, exactly-formed n v))
    (λ v. omega (arith, run-most 48 57 v))
    (λ v. zeros-begin n _ (front-numeral 0 n (min n (digit_run v)) v (omega arith) (omega arith) (omega arith)))
    (λ v m h b. digits-reach n n v m h b)

-- ---- prices

-- how far a value is like a price
abbrev price_far : List ℕ → ℕ
price_far v = (price_front v).good

price-inside : (v : List ℕ) → price_far v ≤ length v
unfolding price_front
price-inside v =
    let rest = drop (wholes v + 1) v in
    of-cond (λ (n : ℕ). n ≤ length v) (pointed v)
    (λ t. omega (arith, point-inside (wholes v) v t, run-most 48 57 rest, length-drop (wholes v + 1) v)) (λ t. omega (arith, run-most 48 57 v))

-- what has a point goes on with decimals
point-begin : (x y : List ℕ) → Numeral 1 7 x → Numeral 0 4 y → Begins PriceForm (x ++ 46 ∷ y)
point-begin x y m n =
    let b = digits-begin 4 y (omega arith) n in
    (b.0, inr (record { wholes = x; decimals = y ++ b.0; parts = append_assoc x (46 ∷ y) b.0; before = m; after = b.1 }))

price-begin : (v : List ℕ) → Begins PriceForm (take (price_far v) v)
unfolding price_front
price-begin v =
    of-cond (λ (n : ℕ). Begins PriceForm (take n v)) (pointed v)
    (λ t. subst (Begins PriceForm) (sym (point-cut (wholes v) (decimals v) v t))
    (point-begin (take (wholes v) v) (part (wholes v + 1) (decimals v) v) (wholes-numeral v t) (decimals-numeral v 0 (omega arith))))
    (λ t. let b = digits-begin 7 (take (wholes v) v) (omega arith) (front-numeral 0 7 (wholes v) v (omega arith) (omega arith) (omega arith)) in
    (b.0, inl b.1))

-- as far as digits go, and as far as digits go after a point
plain-reach : (v : List ℕ) (n : ℕ) → n ≤ wholes v → n ≤ price_far v
unfolding price_front
plain-reach v n h = of-cond (λ (k : ℕ). n ≤ k) (pointed v) (λ t. omega arith) (λ t. h)

point-reach : (x y : List ℕ) (k : ℕ) → Numeral 1 7 x → k ≤ 4 → k ≤ digit_run y → length x + suc k ≤ price_far (x ++ 46 ∷ y)
unfolding price_front
point-reach x y k m l h =
    let v = x ++ 46 ∷ y in
    let d : decimals v ≡ min 4 (digit_run y) = ap (λ (s : List ℕ). min 4 (digit_run s)) (after-point x y m) in
    rw (point-part x y m) (omega (arith, whole_part x y m))

-- the first n bytes are those of w, a point and d
module _ (v w d rest : List ℕ) (n : ℕ) (h : n ≤ length v) (e : take n v ++ rest ≡ w ++ 46 ∷ d) (m : Numeral 1 7 w) (o : Numeral 1 4 d) where
  first-bytes : take n v ≡ take n (w ++ 46 ∷ d)
  first-bytes = sym (take_at (take n v) rest n (length-take-le n v h)) ∙ ap (take n) e

  before-reach : n ≤ length w → n ≤ price_far v
  before-reach l =
      let f : take n v ++ drop n w ≡ w = ap (λ (s : List ℕ). s ++ drop n w) (first-bytes ∙ take-append-le n w (46 ∷ d) l) ∙ take-append-drop n w in
      plain-reach v n (digits-reach 1 7 v n h (drop n w, subst (Numeral 1 7) (sym f) m))

  after-reach : (k : ℕ) → n ≡ length w + suc k → n ≤ price_far v
  after-reach k q =
      let y = take k d ++ drop n v in
      let f : take n v ≡ w ++ 46 ∷ take k d = first-bytes ∙ ap (λ (j : ℕ). take j (w ++ 46 ∷ d)) q ∙ take-append-add w (46 ∷ d) (suc k) in
      let c : v ≡ w ++ 46 ∷ y = sym (take-append-drop n v) ∙ ap (λ (s : List ℕ). s ++ drop n v) f ∙ append_assoc w (46 ∷ take k d) (drop n v) in
      let l : k ≤ length d =
      omega (arith, q, sym (length-append (take n v) rest) ∙ ap length e ∙ length-append w (46 ∷ d), length-take-le n v h) in
      let r : k ≤ digit_run y = omega (arith, run-append (take k d) (drop n v) (all_in-take 48 57 k d o.only), length-take-le k d l) in
      subst (λ (s : List ℕ). n ≤ price_far s) (sym c) (subst (λ (j : ℕ). j ≤ price_far (w ++ 46 ∷ y)) (sym q) (point-reach w y k m (omega (arith, o.most)) r))

price-reach : (v : List ℕ) (n : ℕ) → n ≤ length v → Begins PriceForm (take n v) → n ≤ price_far v
price-reach v n h b =
    ⊎_elim
    (λ d. plain-reach v n (digits-reach 1 7 v n h (b.0, d)))
    (λ p. ⊎_elim
    (before-reach v p.wholes p.decimals b.0 n h p.parts p.before p.after)
    (λ l. after-reach v p.wholes p.decimals b.0 n h p.parts p.before p.after (n - suc (length p.wholes)) (omega arith))
    (le-or-lt n (length p.wholes)))
    b.1

pub price-places : Places PriceForm bad_price
price-places =
    reader-places PriceForm bad_price price_far (λ v. (price_front v).complete) (λ v. by_front v (price_front v) refl)
    (λ v. (price-form v, price-well v)) price-inside price-begin price-reach

-- ---- times

-- like a pattern with which that of a time with .mmm begins
module _ (p q v : List ℕ) (e : p ++ q ≡ time_pattern) where
  alike-formed : time_long (length p) ≡ true → like_all p v ≡ true → bad_time v ≡ none
  unfolding bad_time
  alike-formed t h =
      form-well v (like_run time_pattern v) (time_long (length v)) (subst (λ (x : List ℕ). like_run x v ≡ length v) e (like-run p q v h)) (ap time_long (like-size p v h) ∙ t)

  alike-reach : (n : ℕ) (rest : List ℕ) → n ≤ length v → like_all p (take n v ++ rest) ≡ true → n ≤ like_run time_pattern v
  alike-reach n rest l h = subst (λ (x : List ℕ). n ≤ like_run x v) e (like-reach n p q v rest l h)

  alike-whole : bad_time v ≡ none → length v ≡ length p → like_all p v ≡ true
  unfolding bad_time
  alike-whole f l =
      like-whole p q v (ap (λ (x : List ℕ). like_run x v) e ∙ (form-good v (like_run time_pattern v) (time_long (length v)) f).0) l

abbrev short : List ℕ
short = bytes_of "00000000-00:00:00"

abbrev thousandths : List ℕ
thousandths = bytes_of ".000"

time-alike : (v : List ℕ) → (bad_time v ≡ none) ↔ TimeForm v
time-alike v = (
  λ e. ⊎_elim (λ l. inl (alike-whole short thousandths v refl e l)) (λ l. inr (alike-whole time_pattern [] v refl e l)) (time-lengths v e),
  ⊎_elim (alike-formed short thousandths v refl refl) (alike-formed time_pattern [] v refl refl),
)

pub time-places : Places TimeForm bad_time
unfolding bad_time
time-places =
    reader-places TimeForm bad_time (like_run time_pattern) (λ v. time_long (length v)) (λ v. refl)
    time-alike
    (like-most time_pattern)
    (λ v. (drop (like_run time_pattern v) time_pattern, inr (like-rest time_pattern v)))
    (λ v n h b. ⊎_elim (alike-reach short thousandths v refl n b.0 h) (alike-reach time_pattern [] v refl n b.0 h) b.1)

-- ---- the answers of the readers

-- what a reader answers has that place, whatever the range
checked-place : (form : Option ℕ) (fits : Bool) → check_place (checked form fits) ≡ form
checked-place (some at) fits = refl
checked-place none true = refl
checked-place none false = refl

numbered-place : (v : List ℕ) (form : Option ℕ) (fits : Bool) → number_place (numbered v form fits) ≡ form
numbered-place v (some at) fits = refl
numbered-place v none true = refl
numbered-place v none false = refl

priced-place : (v : List ℕ) (form : Option ℕ) → price_place (priced v form) ≡ form
priced-place v (some at) = refl
priced-place v none = refl

-- places that are told alike
same-places : (Good : List ℕ → Type 0) (bad told : List ℕ → Option ℕ) → ((v : List ℕ) → told v ≡ bad v) → Places Good bad → Places Good told
same-places Good bad told e x = record {
  formed = λ v. (λ h. (x.formed v).0 (sym (e v) ∙ h), λ g. e v ∙ (x.formed v).1 g);
  fails = λ v p. (λ h. (x.fails v p).0 (sym (e v) ∙ h), λ f. e v ∙ (x.fails v p).1 f);
}

pub read-number-places : (low high : ℕ) → Places NumberForm (λ v. number_place (number_read low high v))
unfolding number_read
read-number-places low high =
    same-places NumberForm bad_number _ (λ v. numbered-place v (bad_number v) (between low high (digits v))) number-places

pub read-exactly-places : (n : ℕ) → Places (Numeral n n) (λ v. check_place (exactly_checked n v))
unfolding exactly_checked
read-exactly-places n = same-places (Numeral n n) (bad_digits n) _ (λ v. checked-place (bad_digits n v) true) (exactly-places n)

pub read-price-places : Places PriceForm (λ v. price_place (price_read v))
unfolding price_read
read-price-places = same-places PriceForm bad_price _ (λ v. priced-place v (bad_price v)) price-places

pub read-time-places : Places TimeForm (λ v. check_place (time_checked v))
unfolding time_checked
read-time-places = same-places TimeForm bad_time _ (λ v. checked-place (bad_time v) (time_fits v)) time-places

pub read-graph-places : (least most : ℕ) → Places GraphForm (λ v. check_place (graph_checked least most v))
unfolding graph_checked
read-graph-places least most = same-places GraphForm bad_graph _ (λ v. checked-place (bad_graph v) (between least most (length v))) graph-places
