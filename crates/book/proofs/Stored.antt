-- The stored order rows: brought up to date by booking and acknowledging, they are the rows as the slots have them.
--     first-of, booked-of, waits-of     what is read from a row is what was written
--     orders-once     each OrderID stands once among the day's
--     first-stored, booked-stored, known-stored     what is known of an order by its row is what the slots say
--     rows-with, day-with     a slot more
--     rows-without, day-without     slots that are acknowledged
--     rows_empty, day-empty, rows-count, rows-are-wide     of no slots; as many as there are orders, each as wide as a row
--     all-taken, day-taken     where all are acknowledged none waits
--     day-is-sum     the day's sum is that of the rows
use mathlib.Core.Path.{◌≡◌, refl, sym, ap, ap₂, ◌∙◌}
use mathlib.Core.Logic.{⊎_elim}
use mathlib.Core.List.{List, [], ◌∷◌, ◌++◌, append_assoc, map, map-map, map-append}
use mathlib.Core.Option.{Option, none, some}
use mathlib.Core.Bool.{Bool, true, false, cond, ◌&&◌, ◌||◌, not}
use Prim.Native.Nat.{ℕ, zero, suc, ◌+◌, ◌-◌, ◌≤◌, ◌<◌, ◌^◌}
use native.Mathlib.Nat.{add-zero}
use native.Mathlib.Numerals.{add-one}
use native.Mathlib.Omega.{arith}
use lib.ListN.{length, get_or, take, drop, replicate, length-append, length-map, take-append-drop}
use lib.Seq.{take_all, take_at, drop_at, drop-length, drop-append-le, drop-cons, slice_empty, slice-cons}
use Rattle.octet.specs.Bytes.{same, part, sum_of}
use Rattle.octet.specs.Places.{HighFirst, high}
use Rattle.octet.specs.Maybe.{find, is_none}
use Rattle.octet.proofs.Cases.{bool_case, contrary, le-or-lt, of-cond, cond-true, cond-false, and_both, and-no-left, and-make, or_left, or_right, or-none, or-neither}
use Rattle.octet.proofs.Cases.{find-here, find-later, find-passes}
use Rattle.octet.proofs.Lists.{same_refl, same_true, same-sym}
use Rattle.octet.proofs.Places.{number-length, number_read}
use Rattle.answer.specs.Numbers.{largest, counted}
use Rattle.fill.specs.Slot.{Slot, is_fill, order_of, shares_of}
use Rattle.book.specs.Place.{same_order, known_order, sum_where}
use Rattle.book.specs.Rows.{Row, row_width, first_in, booked_in, waits_in, row_of, numbered, head_of, is_row_of, row_for, before, head_by, booked_by, first_for, booked_for, is_known}
use Rattle.book.specs.Rows.{raised, lowered, on_first, rows_with, day_with, rows_less, day_less, rows_without, day_without}
use Rattle.book.specs.Memory.{most_slots, between}
use Rattle.book.specs.Orders.{is_among, with_order, orders_after, orders_of, OnceIn, of_order, row_is, rows_of, day_of}
use Rattle.book.proofs.Cells.{Wide, none-wide, more-wide}
use Rattle.book.proofs.Regions.{row-wide}
use Rattle.book.proofs.Rowing.{before_here, before-later, before-most, found-there, found_none}
use Rattle.book.proofs.Orders.{among-end, among-with, among-after, among-has, among-known, orders-more, orders-still}
use Rattle.book.proofs.Counts.{sum-append}
use Rattle.book.proofs.Apart.{sum-apart}

-- sums and numbers fit into four bytes
pub record Fits (ss : List Slot) : Type 0 where
  pub sums : sum_where is_fill ss ≤ largest
  pub few : length ss ≤ most_slots

-- ---- what is read from a row is what was written
in_four : (n : ℕ) → n ≤ largest → n < 256 ^ 4
in_four n h = omega arith

module _ (a b c : ℕ) where
  pub first-of : a ≤ largest → first_in (row_of a b c) ≡ a
  unfolding row_of
  first-of h =
      number_read HighFirst 4 a 0 (row_of a b c) (in_four a h)
      (ap (take 4) (append_assoc (high 4 a) (high 4 b) (high 4 c)) ∙ take_at (high 4 a) (high 4 b ++ high 4 c) 4 (number-length HighFirst 4 a))

  pub booked-of : b ≤ largest → booked_in (row_of a b c) ≡ b
  unfolding row_of
  booked-of h =
      number_read HighFirst 4 b 4 (row_of a b c) (in_four b h)
      (ap (part 4 4) (append_assoc (high 4 a) (high 4 b) (high 4 c))
      ∙ ap (take 4) (drop_at (high 4 a) (high 4 b ++ high 4 c) 4 (number-length HighFirst 4 a))
      ∙ take_at (high 4 b) (high 4 c) 4 (number-length HighFirst 4 b))

  pub waits-of : c ≤ largest → waits_in (row_of a b c) ≡ c
  unfolding row_of
  waits-of h =
      let l : length (high 4 a ++ high 4 b) ≡ 8 = omega (arith, length-append (high 4 a) (high 4 b), number-length HighFirst 4 a, number-length HighFirst 4 b) in
      number_read HighFirst 4 c 8 (row_of a b c) (in_four c h)
      (ap (take 4) (drop_at (high 4 a ++ high 4 b) (high 4 c) 8 l) ∙ take_all 4 (high 4 c) (omega (arith, number-length HighFirst 4 c)))

-- ---- lists of OrderIDs
among_first : (id : List ℕ) (ids : List (List ℕ)) → is_among id (id ∷ ids) ≡ true
among_first id ids = or_left (same id id) (is_among id ids) (same_refl id)

among-rest : (id x : List ℕ) (ids : List (List ℕ)) → is_among id ids ≡ true → is_among id (x ∷ ids) ≡ true
among-rest id x ids h = or_right (same id x) (is_among id ids) h

-- one that is among some, and one that is not, are two
among-apart : (x id : List ℕ) (ids : List (List ℕ)) → is_among x ids ≡ false → is_among id ids ≡ true → same x id ≡ false
among-apart x id ids n h =
    ⊎_elim (λ e. contrary h (ap (λ (y : List ℕ). is_among y ids) (sym (same_true x id e)) ∙ n)) (λ e. e) (bool_case (same x id))

once-end : (ids : List (List ℕ)) (y : List ℕ) → OnceIn ids → is_among y ids ≡ false → OnceIn (ids ++ (y ∷ []))
once-end [] y o n = (refl, tt)
once-end (i ∷ ids) y o n =
    let p = or-neither (same y i) (is_among y ids) n in
    (among-end i ids y ∙ or-none (is_among i ids) (same i y) o.0 (same-sym i y ∙ p.0), once-end ids y o.1 p.1)

once-with : (ids : List (List ℕ)) (s : Slot) → OnceIn ids → OnceIn (with_order ids s)
unfolding with_order
once-with ids s o = by (is_fill s) (is_among (order_of s) ids) refl
  where
    by : (fill there : Bool) → is_among (order_of s) ids ≡ there → OnceIn (cond (fill && not there) (ids ++ (order_of s ∷ [])) ids)
    by false there e = o
    by true false e = once-end ids (order_of s) o e
    by true true e = o

once_after : (ids : List (List ℕ)) (ss : List Slot) → OnceIn ids → OnceIn (orders_after ids ss)
unfolding orders_after
once_after ids [] o = o
once_after ids (s ∷ ss) o = once_after (with_order ids s) ss (once-with ids s o)

pub orders-once : (ss : List Slot) → OnceIn (orders_of ss)
orders-once ss = once_after [] ss tt

-- ---- a value for each of them
-- values that are equal on them
pub map-alike : {B : Type 0} (g h : List ℕ → B) (ids : List (List ℕ)) → ((id : List ℕ) → is_among id ids ≡ true → g id ≡ h id) → map g ids ≡ map h ids
map-alike g h [] e = refl
map-alike {B} g h (i ∷ ids) e =
    ap₂ (λ (x : B) (xs : List B). x ∷ xs) (e i (among_first i ids)) (map-alike g h ids (λ id m. e id (among-rest id i ids m)))

-- a row for each of them, and a test that the row of x passes alone
module _ (p : Row → Bool) (g : List ℕ → Row) (x : List ℕ) where
  abbrev Tells : List (List ℕ) → Type 0
  Tells ids = (id : List ℕ) → is_among id ids ≡ true → p (g id) ≡ same x id

  tells-rest : (i : List ℕ) (ids : List (List ℕ)) → Tells (i ∷ ids) → Tells ids
  tells-rest i ids t id m = t id (among-rest id i ids m)

  find-map : (ids : List (List ℕ)) → Tells ids → find p (map g ids) ≡ cond (is_among x ids) (some (g x)) none
  find-map [] t = refl
  find-map (i ∷ ids) t =
      let here : p (g i) ≡ same x i = t i (among_first i ids) in
      ⊎_elim
      (λ e. find-here p (g i) (map g ids) (here ∙ e)
      ∙ ap (λ (y : List ℕ). some (g y)) (sym (same_true x i e))
      ∙ sym (cond-true (same x i || is_among x ids) (some (g x)) none (or_left (same x i) (is_among x ids) e)))
      (λ e. find-later p (g i) (map g ids) (here ∙ e)
      ∙ find-map ids (tells-rest i ids t)
      ∙ ap (λ (b : Bool). cond (b || is_among x ids) (some (g x)) none) (sym e))
      (bool_case (same x i))

  first-map : (h : Row → Row) (ids : List (List ℕ)) → OnceIn ids → Tells ids → on_first p h (map g ids) ≡ map (λ (id : List ℕ). cond (same x id) (h (g id)) (g id)) ids
  first-map h [] o t = refl
  first-map h (i ∷ ids) o t =
      let here : p (g i) ≡ same x i = t i (among_first i ids) in
      let k : List ℕ → Row = λ id. cond (same x id) (h (g id)) (g id) in
      ⊎_elim
      (λ e. (let absent : is_among x ids ≡ false = ap (λ (y : List ℕ). is_among y ids) (same_true x i e) ∙ o.0 in
      cond-true (p (g i)) (h (g i) ∷ map g ids) (g i ∷ on_first p h (map g ids)) (here ∙ e)
      ∙ ap₂ (λ (r : Row) (rs : List Row). r ∷ rs) (sym (cond-true (same x i) (h (g i)) (g i) e))
      (map-alike g k ids (λ id m. sym (cond-false (same x id) (h (g id)) (g id) (among-apart x id ids absent m))))))
      (λ e. cond-false (p (g i)) (h (g i) ∷ map g ids) (g i ∷ on_first p h (map g ids)) (here ∙ e)
      ∙ ap₂ (λ (r : Row) (rs : List Row). r ∷ rs) (sym (cond-false (same x i) (h (g i)) (g i) e)) (first-map h ids o.1 (tells-rest i ids t)))
      (bool_case (same x i))

-- ---- sums over slots
module _ (p : Slot → Bool) where
  -- of what is taken and what is left
  pub sum-split : (n : ℕ) (ss : List Slot) → sum_where p (take n ss) + sum_where p (drop n ss) ≡ sum_where p ss
  sum-split n ss = sym (sum-append p (take n ss) (drop n ss)) ∙ ap (sum_where p) (take-append-drop n ss)

  -- where none passes
  pub sum-none : (ss : List Slot) → find p ss ≡ none → sum_where p ss ≡ 0
  unfolding sum_where
  sum-none [] h = refl
  sum-none (s ∷ ss) h =
      ⊎_elim
      (λ e. (let f : some s ≡ none = sym (find-here p s ss e) ∙ h in cc))
      (λ e. ap₂ (λ (a b : ℕ). a + b) (cond-false (p s) (shares_of s) 0 e) (sum-none ss (sym (find-later p s ss e) ∙ h)))
      (bool_case (p s))

  -- the slot after number n, and those after it
  sum-next : (n : ℕ) (ss : List Slot) → n < length ss
      → sum_where p (drop n ss) ≡ cond (p (get_or ss n [])) (shares_of (get_or ss n [])) 0 + sum_where p (drop (suc n) ss)
  unfolding sum_where
  sum-next n ss h = ap (sum_where p) (drop-cons ss n [] h)

  -- one slot more that passes
  sum_more : (ss : List Slot) (s : Slot) → p s ≡ true → sum_where p (ss ++ (s ∷ [])) ≡ sum_where p ss + shares_of s
  unfolding sum_where
  sum_more ss s h =
      sum-append p ss (s ∷ []) ∙ ap (λ (b : Bool). sum_where p ss + (cond b (shares_of s) 0 + 0)) h ∙ ap (λ (n : ℕ). sum_where p ss + n) (add-zero (shares_of s))

  -- before the first that passes, with one slot more
  before_more : (ss : List Slot) (s : Slot) → before p ss < length ss → before p (ss ++ (s ∷ [])) ≡ before p ss
  before_more [] s h = absurd (omega arith)
  before_more (x ∷ ss) s h =
      ⊎_elim
      (λ e. before_here p x (ss ++ (s ∷ [])) e ∙ sym (before_here p x ss e))
      (λ e. (let b = before-later p x ss e in
      before-later p x (ss ++ (s ∷ [])) e ∙ ap suc (before_more ss s (omega arith)) ∙ sym b))
      (bool_case (p x))

  before-new : (ss : List Slot) (s : Slot) → find p ss ≡ none → p s ≡ true → before p (ss ++ (s ∷ [])) ≡ length ss
  before-new [] s h e = before_here p s [] e
  before-new (x ∷ ss) s h e =
      ⊎_elim
      (λ t. (let f : some x ≡ none = sym (find-here p x ss t) ∙ h in cc))
      (λ t. before-later p x (ss ++ (s ∷ [])) t ∙ ap suc (before-new ss s (sym (find-later p x ss t) ∙ h) e))
      (bool_case (p x))

-- no order has more than all of them
sum_below : (id : List ℕ) (ss : List Slot) → sum_where (of_order id) ss ≤ sum_where is_fill ss
unfolding sum_where
sum_below id [] = omega arith
sum_below id (s ∷ ss) = omega (arith, by (is_fill s), sum_below id ss)
  where
    by : (b : Bool) → cond (b && same id (order_of s)) (shares_of s) 0 ≤ cond b (shares_of s) 0
    by false = omega arith
    by true = of-cond (λ (n : ℕ). n ≤ shares_of s) (same id (order_of s)) (λ h. omega arith) (λ h. omega arith)

-- ---- the row of an order
module _ (ss : List Slot) (acked : ℕ) (fit : Fits ss) where
  first-row : (id : List ℕ) → first_in (row_is ss acked id) ≡ before (of_order id) ss + 1
  first-row id = first-of (before (of_order id) ss + 1) (sum_where (of_order id) ss) (sum_where (of_order id) (drop acked ss)) (omega (arith, before-most (of_order id) ss, fit.few))

  pub booked-row : (id : List ℕ) → booked_in (row_is ss acked id) ≡ sum_where (of_order id) ss
  booked-row id = booked-of (before (of_order id) ss + 1) (sum_where (of_order id) ss) (sum_where (of_order id) (drop acked ss)) (omega (arith, sum_below id ss, fit.sums))

  pub waits-row : (id : List ℕ) → waits_in (row_is ss acked id) ≡ sum_where (of_order id) (drop acked ss)
  waits-row id =
      waits-of (before (of_order id) ss + 1) (sum_where (of_order id) ss) (sum_where (of_order id) (drop acked ss))
      (omega (arith, sum-split (of_order id) acked ss, sum_below id ss, fit.sums))

  pub head-row : (id : List ℕ) → head_of ss (row_is ss acked id) ≡ get_or ss (before (of_order id) ss) []
  head-row id = ap (λ (n : ℕ). numbered n ss) (first-row id ∙ add-one (before (of_order id) ss))

-- an order of the day has a first fill
there-before : (ss : List Slot) (id : List ℕ) → is_among id (orders_of ss) ≡ true → before (of_order id) ss < length ss
there-before ss id m =
    ⊎_elim
    (λ l. contrary (sym (among-has ss id) ∙ m) (ap (λ (o : Option Slot). not (is_none o)) (found_none (of_order id) ss l)))
    (λ l. l)
    (le-or-lt (length ss) (before (of_order id) ss))

pub none_before : (ss : List Slot) (id : List ℕ) → is_among id (orders_of ss) ≡ false → find (of_order id) ss ≡ none
none_before ss id m = by (find (of_order id) ss) (sym (among-has ss id) ∙ m)
  where
    by : (o : Option Slot) → not (is_none o) ≡ false → o ≡ none
    by none e = refl
    by (some s) e = cc

pub first-there : (ss : List Slot) (id : List ℕ) → is_among id (orders_of ss) ≡ true → find (of_order id) ss ≡ some (get_or ss (before (of_order id) ss) [])
first-there ss id m = found-there (of_order id) [] ss (there-before ss id m)

-- the row of an order is that of the fills with its OrderID
own_row : (ss : List Slot) (acked : ℕ) → Fits ss → (f : Slot) (id : List ℕ) → is_among id (orders_of ss) ≡ true → is_row_of ss f (row_is ss acked id) ≡ same (order_of f) id
unfolding same_order
own_row ss acked fit f id m =
    let k = get_or ss (before (of_order id) ss) [] in
    let p = and_both (is_fill k) (same id (order_of k)) (find-passes (of_order id) ss k (first-there ss id m)) in
    ap (same_order f) (head-row ss acked fit id)
    ∙ ap (λ (b : Bool). b && same (order_of f) (order_of k)) p.0
    ∙ ap (same (order_of f)) (sym (same_true id (order_of k) p.1))

-- a fill is one of the order with its OrderID, and of no other
fill-of : (s : Slot) → is_fill s ≡ true → (id : List ℕ) → of_order id s ≡ same (order_of s) id
fill-of s f id = ap (λ (b : Bool). b && same id (order_of s)) f ∙ same-sym id (order_of s)

-- ---- what is known of an order by its row
module _ (ss : List Slot) (acked : ℕ) (fit : Fits ss) (f : Slot) where
  pub row-stored : row_for ss (rows_of ss acked) f ≡ cond (is_among (order_of f) (orders_of ss)) (some (row_is ss acked (order_of f))) none
  unfolding row_for
  row-stored = find-map (is_row_of ss f) (row_is ss acked) (order_of f) (orders_of ss) (own_row ss acked fit f)

  pub first-stored : first_for ss (rows_of ss acked) f ≡ find (same_order f) ss
  unfolding first_for same_order
  first-stored =
      ap (head_by ss) row-stored
      ∙ of-cond (λ (o : Option Row). head_by ss o ≡ find (of_order (order_of f)) ss) (is_among (order_of f) (orders_of ss))
      (λ m. ap some (head-row ss acked fit (order_of f)) ∙ sym (first-there ss (order_of f) m))
      (λ m. sym (none_before ss (order_of f) m))

  pub booked-stored : booked_for ss (rows_of ss acked) f ≡ sum_where (same_order f) ss
  unfolding booked_for same_order
  booked-stored =
      ap booked_by row-stored
      ∙ of-cond (λ (o : Option Row). booked_by o ≡ sum_where (of_order (order_of f)) ss) (is_among (order_of f) (orders_of ss))
      (λ m. booked-row ss acked fit (order_of f))
      (λ m. sym (sum-none (of_order (order_of f)) ss (none_before ss (order_of f) m)))

  pub known-stored : is_known ss (rows_of ss acked) f ≡ known_order ss f
  unfolding is_known
  known-stored = ap (λ (o : Option Row). not (is_none o)) row-stored ∙ by (is_among (order_of f) (orders_of ss)) ∙ among-known ss f
    where
      by : (b : Bool) → not (is_none (cond b (some (row_is ss acked (order_of f))) none)) ≡ b
      by true = refl
      by false = refl

-- ---- a slot more
-- those that wait, with one slot more
drop_more : (ss : List Slot) (acked : ℕ) (s : Slot) → acked ≤ length ss → drop acked (ss ++ (s ∷ [])) ≡ drop acked ss ++ (s ∷ [])
drop_more ss acked s l = drop-append-le acked ss (s ∷ []) l

module _ (ss : List Slot) (acked : ℕ) (s : Slot) (fit : Fits ss) (fits : Fits (ss ++ (s ∷ []))) (l : acked ≤ length ss) where
  abbrev more : List Slot
  more = ss ++ (s ∷ [])

  -- the row of an order that is known, and is not that of the slot
  row_same : (id : List ℕ) → is_among id (orders_of ss) ≡ true → of_order id s ≡ false → row_is more acked id ≡ row_is ss acked id
  row_same id m n =
      let p = of_order id in
      let a : before p more + 1 ≡ before p ss + 1 = ap (λ (k : ℕ). k + 1) (before_more p ss s (there-before ss id m)) in
      let c : sum_where p (drop acked more) ≡ sum_where p (drop acked ss) = ap (sum_where p) (drop_more ss acked s l) ∙ sum-apart p (drop acked ss) s n in
      ap (λ (k : ℕ). row_of k (sum_where p more) (sum_where p (drop acked more))) a
      ∙ ap₂ (row_of (before p ss + 1)) (sum-apart p ss s n) c

  -- the row of its own order
  row-raised : (id : List ℕ) → is_among id (orders_of ss) ≡ true → of_order id s ≡ true → row_is more acked id ≡ raised (shares_of s) (row_is ss acked id)
  unfolding raised
  row-raised id m n =
      let p = of_order id in
      let r = row_is ss acked id in
      let q = shares_of s in
      let a : before p more + 1 ≡ first_in r = ap (λ (k : ℕ). k + 1) (before_more p ss s (there-before ss id m)) ∙ sym (first-row ss acked fit id) in
      let sum : sum_where p more ≡ sum_where p ss + q = sum_more p ss s n in
      let wait : sum_where p (drop acked more) ≡ sum_where p (drop acked ss) + q = ap (sum_where p) (drop_more ss acked s l) ∙ sum_more p (drop acked ss) s n in
      let most : sum_where p more ≤ largest = omega (arith, sum_below id more, fits.sums) in
      let less : sum_where p (drop acked more) ≤ largest = omega (arith, sum-split p acked more, most) in
      let b : sum_where p more ≡ counted (booked_in r) q = omega (arith, booked-row ss acked fit id, sum, most) in
      let c : sum_where p (drop acked more) ≡ counted (waits_in r) q = omega (arith, waits-row ss acked fit id, wait, less) in
      ap (λ (k : ℕ). row_of k (sum_where p more) (sum_where p (drop acked more))) a ∙ ap₂ (row_of (first_in r)) b c

  -- the row of a new order
  row_new : of_order (order_of s) s ≡ true → is_among (order_of s) (orders_of ss) ≡ false
      → row_is more acked (order_of s) ≡ row_of (length ss + 1) (shares_of s) (shares_of s)
  row_new n m =
      let p = of_order (order_of s) in
      let q = shares_of s in
      let gone : find p ss ≡ none = none_before ss (order_of s) m in
      let nought : sum_where p ss ≡ 0 = sum-none p ss gone in
      let a : before p more + 1 ≡ length ss + 1 = ap (λ (k : ℕ). k + 1) (before-new p ss s gone n) in
      let b : sum_where p more ≡ q = omega (arith, sum_more p ss s n, nought) in
      let wait : sum_where p (drop acked more) ≡ sum_where p (drop acked ss) + q = ap (sum_where p) (drop_more ss acked s l) ∙ sum_more p (drop acked ss) s n in
      let c : sum_where p (drop acked more) ≡ q = omega (arith, wait, sum-split p acked ss, nought) in
      ap (λ (k : ℕ). row_of k (sum_where p more) (sum_where p (drop acked more))) a ∙ ap₂ (row_of (length ss + 1)) b c

  rows_more : is_fill s ≡ true → is_among (order_of s) (orders_of ss) ≡ true
      → on_first (is_row_of ss s) (raised (shares_of s)) (rows_of ss acked) ≡ map (row_is more acked) (orders_of ss)
  rows_more f m =
      let g : List ℕ → Row = row_is ss acked in
      let h : Row → Row = raised (shares_of s) in
      first-map (is_row_of ss s) g (order_of s) h (orders_of ss) (orders-once ss) (own_row ss acked fit s)
      ∙ map-alike (λ (id : List ℕ). cond (same (order_of s) id) (h (g id)) (g id)) (row_is more acked) (orders_of ss)
      (λ id there. of-cond (λ (r : Row). r ≡ row_is more acked id) (same (order_of s) id)
      (λ e. sym (row-raised id there (fill-of s f id ∙ e)))
      (λ e. sym (row_same id there (fill-of s f id ∙ e))))

  rows_new : is_fill s ≡ true → is_among (order_of s) (orders_of ss) ≡ false
      → rows_of ss acked ++ (row_of (length ss + 1) (shares_of s) (shares_of s) ∷ []) ≡ map (row_is more acked) (orders_of ss ++ (order_of s ∷ []))
  rows_new f m =
      ap₂ (λ (rs : List Row) (r : Row). rs ++ (r ∷ []))
      (map-alike (row_is ss acked) (row_is more acked) (orders_of ss)
      (λ id there. sym (row_same id there (fill-of s f id ∙ among-apart (order_of s) id (orders_of ss) m there))))
      (sym (row_new (fill-of s f (order_of s) ∙ same_refl (order_of s)) m))
      ∙ sym (map-append (row_is more acked) (orders_of ss) (order_of s ∷ []))

pub rows-with : (ss : List Slot) (acked : ℕ) (s : Slot) → Fits ss → Fits (ss ++ (s ∷ [])) → acked ≤ length ss
    → rows_with ss (rows_of ss acked) s ≡ rows_of (ss ++ (s ∷ [])) acked
unfolding rows_with
rows-with ss acked s fit fits l =
    of-cond (λ (rows : List Row). rows ≡ rows_of (ss ++ (s ∷ [])) acked) (is_fill s)
    (λ f. of-cond (λ (rows : List Row). rows ≡ rows_of (ss ++ (s ∷ [])) acked) (is_known ss (rows_of ss acked) s)
    (λ k. (let known : known_order ss s ≡ true = sym (known-stored ss acked fit s) ∙ k in
    rows_more ss acked s fit fits l f (among-known ss s ∙ known)
    ∙ ap (map (row_is (ss ++ (s ∷ [])) acked)) (sym (orders-more ss s f ∙ cond-true (known_order ss s) (orders_of ss) (orders_of ss ++ (order_of s ∷ [])) known))))
    (λ k. (let known : known_order ss s ≡ false = sym (known-stored ss acked fit s) ∙ k in
    rows_new ss acked s fit fits l f (among-known ss s ∙ known)
    ∙ ap (map (row_is (ss ++ (s ∷ [])) acked)) (sym (orders-more ss s f ∙ cond-false (known_order ss s) (orders_of ss) (orders_of ss ++ (order_of s ∷ [])) known)))))
    (λ n. map-alike (row_is ss acked) (row_is (ss ++ (s ∷ [])) acked) (orders_of ss)
    (λ id there. sym (row_same ss acked s fit fits l id there (and-no-left (is_fill s) (same id (order_of s)) n)))
    ∙ ap (map (row_is (ss ++ (s ∷ [])) acked)) (sym (orders-still ss s n)))

pub day-with : (ss : List Slot) (acked : ℕ) (s : Slot) → Fits (ss ++ (s ∷ [])) → acked ≤ length ss
    → day_with (day_of ss acked) s ≡ day_of (ss ++ (s ∷ [])) acked
unfolding day_with
day-with ss acked s fits l =
    let day = day_of (ss ++ (s ∷ [])) acked in
    let split = sum-split is_fill acked (ss ++ (s ∷ [])) in
    let wait : day ≡ sum_where is_fill (drop acked ss ++ (s ∷ [])) = ap (sum_where is_fill) (drop_more ss acked s l) in
    of-cond (λ (n : ℕ). n ≡ day) (is_fill s)
    (λ f. omega (arith, wait, sum_more is_fill (drop acked ss) s f, split, fits.sums))
    (λ n. sym (wait ∙ sum-apart is_fill (drop acked ss) s n))

-- ---- slots that are acknowledged, one after another
module _ (ss : List Slot) (acked : ℕ) (fit : Fits ss) (l : acked < length ss) where
  abbrev next : Slot
  next = get_or ss acked []

  row-still : (id : List ℕ) → of_order id next ≡ false → row_is ss (suc acked) id ≡ row_is ss acked id
  row-still id n =
      let p = of_order id in
      let c : sum_where p (drop (suc acked) ss) ≡ sum_where p (drop acked ss) = omega (arith, sum-next p acked ss l, cond-false (p next) (shares_of next) 0 n) in
      ap (row_of (before p ss + 1) (sum_where p ss)) c

  row-lowered : (id : List ℕ) → of_order id next ≡ true → row_is ss (suc acked) id ≡ lowered (shares_of next) (row_is ss acked id)
  unfolding lowered
  row-lowered id n =
      let p = of_order id in
      let r = row_is ss acked id in
      let c : sum_where p (drop (suc acked) ss) ≡ waits_in r - shares_of next =
      omega (arith, waits-row ss acked fit id, sum-next p acked ss l, cond-true (p next) (shares_of next) 0 n) in
      ap (λ (k : ℕ). row_of k (sum_where p ss) (sum_where p (drop (suc acked) ss))) (sym (first-row ss acked fit id))
      ∙ ap₂ (row_of (first_in r)) (sym (booked-row ss acked fit id)) c

  rows-less : rows_less ss (rows_of ss acked) next ≡ rows_of ss (suc acked)
  unfolding rows_less
  rows-less =
      let g : List ℕ → Row = row_is ss acked in
      let h : Row → Row = lowered (shares_of next) in
      of-cond (λ (rows : List Row). rows ≡ rows_of ss (suc acked)) (is_fill next)
      (λ f. first-map (is_row_of ss next) g (order_of next) h (orders_of ss) (orders-once ss) (own_row ss acked fit next)
      ∙ map-alike (λ (id : List ℕ). cond (same (order_of next) id) (h (g id)) (g id)) (row_is ss (suc acked)) (orders_of ss)
      (λ id there. of-cond (λ (r : Row). r ≡ row_is ss (suc acked) id) (same (order_of next) id)
      (λ e. sym (row-lowered id (fill-of next f id ∙ e)))
      (λ e. sym (row-still id (fill-of next f id ∙ e)))))
      (λ n. map-alike g (row_is ss (suc acked)) (orders_of ss) (λ id there. sym (row-still id (and-no-left (is_fill next) (same id (order_of next)) n))))

day-less : (ss : List Slot) (acked : ℕ) → acked < length ss → day_less (day_of ss acked) (get_or ss acked []) ≡ day_of ss (suc acked)
unfolding day_less
day-less ss acked l =
    let s = get_or ss acked [] in
    let wait = sum-next is_fill acked ss l in
    of-cond (λ (n : ℕ). n ≡ day_of ss (suc acked)) (is_fill s)
    (λ f. omega (arith, wait, cond-true (is_fill s) (shares_of s) 0 f))
    (λ n. omega (arith, wait, cond-false (is_fill s) (shares_of s) 0 n))

module _ (ss : List Slot) (n : ℕ) (l : n ≤ length ss) where
  rows-steps : Fits ss → (k acked : ℕ) → acked + k ≡ n → rows_without ss (rows_of ss acked) (between acked n ss) ≡ rows_of ss n
  unfolding rows_without
  rows-steps fit zero acked e =
      let here : acked ≡ n = omega arith in
      ap (λ (a : ℕ). rows_without ss (rows_of ss a) (between a n ss)) here ∙ ap (rows_without ss (rows_of ss n)) (slice_empty n ss)
  rows-steps fit (suc k) acked e =
      ap (rows_without ss (rows_of ss acked)) (slice-cons acked n ss [] (omega arith) l)
      ∙ ap (λ (rows : List Row). rows_without ss rows (between (suc acked) n ss)) (rows-less ss acked fit (omega arith))
      ∙ rows-steps fit k (suc acked) (omega arith)

  day-steps : (k acked : ℕ) → acked + k ≡ n → day_without (day_of ss acked) (between acked n ss) ≡ day_of ss n
  unfolding day_without
  day-steps zero acked e =
      let here : acked ≡ n = omega arith in
      ap (λ (a : ℕ). day_without (day_of ss a) (between a n ss)) here ∙ ap (day_without (day_of ss n)) (slice_empty n ss)
  day-steps (suc k) acked e =
      ap (day_without (day_of ss acked)) (slice-cons acked n ss [] (omega arith) l)
      ∙ ap (λ (day : ℕ). day_without day (between (suc acked) n ss)) (day-less ss acked (omega arith))
      ∙ day-steps k (suc acked) (omega arith)

pub rows-without : (ss : List Slot) (acked n : ℕ) → Fits ss → acked ≤ n → n ≤ length ss → rows_without ss (rows_of ss acked) (between acked n ss) ≡ rows_of ss n
rows-without ss acked n fit h l = rows-steps ss n l fit (n - acked) acked (omega arith)

pub day-without : (ss : List Slot) (acked n : ℕ) → acked ≤ n → n ≤ length ss → day_without (day_of ss acked) (between acked n ss) ≡ day_of ss n
day-without ss acked n h l = day-steps ss n l (n - acked) acked (omega arith)

-- ---- of no slots; how many rows, and how wide
pub rows_empty : rows_of [] 0 ≡ []
unfolding orders_after
rows_empty = refl

pub day-empty : day_of [] 0 ≡ 0
unfolding sum_where
day-empty = refl

pub rows-count : (ss : List Slot) (acked : ℕ) → length (rows_of ss acked) ≡ length (orders_of ss)
rows-count ss acked = length-map (orders_of ss) (row_is ss acked)

pub rows-are-wide : (ss : List Slot) (acked : ℕ) → Wide row_width (rows_of ss acked)
rows-are-wide ss acked = by (orders_of ss)
  where
    by : (ids : List (List ℕ)) → Wide row_width (map (row_is ss acked) ids)
    by [] = none-wide
    by (id ∷ ids) = more-wide (row-wide (before (of_order id) ss + 1) (sum_where (of_order id) ss) (sum_where (of_order id) (drop acked ss))) (by ids)

-- ---- where all are acknowledged none waits
taken_none : (p : Slot → Bool) (ss : List Slot) → sum_where p (drop (length ss) ss) ≡ 0
unfolding sum_where
taken_none p ss = ap (sum_where p) (drop-length ss)

pub all-taken : (ss : List Slot) → Fits ss → map waits_in (rows_of ss (length ss)) ≡ replicate (length (orders_of ss)) 0
all-taken ss fit = by (orders_of ss)
  where
    by : (ids : List (List ℕ)) → map waits_in (map (row_is ss (length ss)) ids) ≡ replicate (length ids) 0
    by [] = refl
    by (id ∷ ids) = ap₂ (λ (n : ℕ) (ns : List ℕ). n ∷ ns) (waits-row ss (length ss) fit id ∙ taken_none (of_order id) ss) (by ids)

pub day-taken : (ss : List Slot) → day_of ss (length ss) ≡ 0
day-taken ss = taken_none is_fill ss

-- ---- the day's sum is that of the rows
-- the OrderID of each fill is among some
abbrev FillsAmong : List (List ℕ) → List Slot → Type 0
FillsAmong ids [] = Unit
FillsAmong ids (s ∷ ss) = (is_fill s ≡ true → is_among (order_of s) ids ≡ true) × FillsAmong ids ss

fills-after : (ids : List (List ℕ)) (ss : List Slot) → FillsAmong (orders_after ids ss) ss
unfolding orders_after
fills-after ids [] = tt
fills-after ids (s ∷ ss) = (
  λ f. among-after (with_order ids s) ss (order_of s)
      ∙ or_left (is_among (order_of s) (with_order ids s)) (not (is_none (find (of_order (order_of s)) ss)))
      (among-with (order_of s) ids s ∙ or_right (is_among (order_of s) ids) (of_order (order_of s) s) (and-make (is_fill s) (same (order_of s) (order_of s)) f (same_refl (order_of s)))),
  fills-after (with_order ids s) ss,
)

fills-drop : (ids : List (List ℕ)) (n : ℕ) (ss : List Slot) → FillsAmong ids ss → FillsAmong ids (drop n ss)
fills-drop ids zero ss h = h
fills-drop ids (suc n) [] h = tt
fills-drop ids (suc n) (s ∷ ss) h = fills-drop ids n ss h.1

sums-add : (g h : List ℕ → ℕ) (ids : List (List ℕ)) → sum_of (map (λ (id : List ℕ). g id + h id) ids) ≡ sum_of (map g ids) + sum_of (map h ids)
sums-add g h [] = refl
sums-add g h (id ∷ ids) = omega (arith, sums-add g h ids)

sums-nought : (ids : List (List ℕ)) → sum_of (map (λ (id : List ℕ). 0) ids) ≡ 0
sums-nought [] = refl
sums-nought (id ∷ ids) = omega (arith, sums-nought ids)

-- a number for one of them, and 0 for all others
sums-one : (x : List ℕ) (q : ℕ) (ids : List (List ℕ)) → OnceIn ids → is_among x ids ≡ true → sum_of (map (λ (id : List ℕ). cond (same id x) q 0) ids) ≡ q
sums-one x q [] o m = cc
sums-one x q (i ∷ ids) o m =
    ⊎_elim
    (λ e. (let absent : is_among x ids ≡ false = ap (λ (y : List ℕ). is_among y ids) (sym (same_true i x e)) ∙ o.0 in
    let rest : sum_of (map (λ (id : List ℕ). cond (same id x) q 0) ids) ≡ 0 =
    ap sum_of (map-alike (λ (id : List ℕ). cond (same id x) q 0) (λ (id : List ℕ). 0) ids
    (λ id there. cond-false (same id x) q 0 (same-sym id x ∙ among-apart x id ids absent there))) ∙ sums-nought ids in
    omega (arith, cond-true (same i x) q 0 e, rest)))
    (λ e. (let there : is_among x ids ≡ true = ap (λ (b : Bool). b || is_among x ids) (sym (same-sym x i ∙ e)) ∙ m in
    omega (arith, cond-false (same i x) q 0 e, sums-one x q ids o.1 there)))
    (bool_case (same i x))

sums-slot : (s : Slot) (ids : List (List ℕ)) → OnceIn ids → (is_fill s ≡ true → is_among (order_of s) ids ≡ true)
    → sum_of (map (λ (id : List ℕ). cond (of_order id s) (shares_of s) 0) ids) ≡ cond (is_fill s) (shares_of s) 0
sums-slot s ids o h = by (is_fill s) h
  where
    by : (b : Bool) → (b ≡ true → is_among (order_of s) ids ≡ true) → sum_of (map (λ (id : List ℕ). cond (b && same id (order_of s)) (shares_of s) 0) ids) ≡ cond b (shares_of s) 0
    by true m = sums-one (order_of s) (shares_of s) ids o (m refl)
    by false m = sums-nought ids

sums-all : (ids : List (List ℕ)) → OnceIn ids → (ss : List Slot) → FillsAmong ids ss → sum_of (map (λ (id : List ℕ). sum_where (of_order id) ss) ids) ≡ sum_where is_fill ss
unfolding sum_where
sums-all ids o [] h = sums-nought ids
sums-all ids o (s ∷ ss) h =
    sums-add (λ (id : List ℕ). cond (of_order id s) (shares_of s) 0) (λ (id : List ℕ). sum_where (of_order id) ss) ids
    ∙ ap₂ (λ (a b : ℕ). a + b) (sums-slot s ids o h.0) (sums-all ids o ss h.1)

pub day-is-sum : (ss : List Slot) (acked : ℕ) → Fits ss → day_of ss acked ≡ sum_of (map waits_in (rows_of ss acked))
day-is-sum ss acked fit =
    let ids = orders_of ss in
    sym (ap sum_of (map-map waits_in (row_is ss acked) ids
    ∙ map-alike (λ (id : List ℕ). waits_in (row_is ss acked id)) (λ (id : List ℕ). sum_where (of_order id) (drop acked ss)) ids (λ id there. waits-row ss acked fit id))
    ∙ sums-all ids (orders-once ss) (drop acked ss) (fills-drop ids acked ss (fills-after [] ss)))
