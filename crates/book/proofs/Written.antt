-- The rows of a lent memory, as they are searched and written.
--     head-..     the first fill of a row's order
--     rows-turn, rows-past     a search over them
--     more-old, more-new, fewer-old, fewer-out     a row written, from the numbers that were read
--     entered-..     the memory with a slot more
--     found_inside     the row of an order lies in the memory
--     fewer-rows     a row with contracts taken off is the first of its order's changed
--     alone-.., rest-..     the rows alone are written, slot after slot
use mathlib.Core.Path.{◌≡◌, refl, sym, ap, ap₂, ◌∙◌, subst}
use mathlib.Core.Logic.{◌⊎◌, ⊎_elim}
use mathlib.Core.List.{List, [], ◌∷◌, ◌++◌}
use mathlib.Core.Bool.{Bool, true, false, cond}
use Prim.Native.Nat.{ℕ, zero, suc, ◌+◌, ◌-◌, ◌*◌, ◌≤◌, ◌<◌, min}
use native.Mathlib.Nat.{mul-le-mul_right}
use native.Mathlib.Omega.{arith}
use lib.ListN.{length, take, drop, get_or, set, length-take}
use lib.Seq.{take-nil, drop-nil}
use lib.Dec.{ltb, eqb}
use borrow.Author.Tests.{lt-ltb, le-ltb, ltb-true, eq-eqb}
use Rattle.octet.specs.Bytes.{joined}
use Rattle.octet.specs.Splice.{splice}
use Rattle.octet.proofs.Cases.{bool_case, contrary, cond-true, cond-false, of-cond, and-make, or_cases, le-or-lt, find-passes}
use Rattle.octet.proofs.Lists.{drop-done, part-past, splice-over, splice-length}
use Rattle.answer.specs.Numbers.{counted}
use Rattle.fill.specs.Slot.{Slot, slot_width, is_fill, is_entry, shares_of}
use Rattle.book.specs.Place.{most_orders, orders_with}
use Rattle.book.specs.Admitting.{has_room, load_with}
use Rattle.book.specs.declared.Load.{Load}
use Rattle.book.specs.Rows.{Row, row_width, first_in, booked_in, waits_in, row_of, numbered, head_of, is_row_of, before, row_place, row_to, raised, lowered, is_known, on_first, more_of, rows_with, rows_less, day_less, rows_without, day_without}
use Rattle.book.specs.Memory.{region_of, slots_here, rows_here, most_slots, book_width, cells, laid, slots_in, slot_at, fits_after, appended, rows_in, row_at, row_put, row_more, row_fewer, entered, holding, between}
use Rattle.book.specs.Seeing.{RowsAlone, TakesOne}
use Rattle.book.proofs.Cells.{cells-nth, cells-step, cells-drop, cells-end, joined-cells}
use Rattle.book.proofs.Regions.{rows-wide, slots-wide, slot-past, rows-length, slots_length, appended-length, slots-append, rows_append, laid-append, slots-put, put-length, put-set, put-append, laid-put, laid-own, slots-laid, row-wide}
use Rattle.book.proofs.ByKind.{entry-no-fill, fill-no-entry, load-as}
use Rattle.book.proofs.Placing.{has_room_lem}
use Rattle.book.proofs.Rowing.{numbered-past, before-stop, before_on, found-there, row-empty, known-place, unknown-place, first-set, first-none, before-later}

-- ---- cells past the end of a region are of no bytes
module _ (w : ℕ) (p : List ℕ → Bool) (passed : p [] ≡ false) where
  before-empty : (k : ℕ) → before p (cells w k []) ≡ k
  unfolding cells
  before-empty zero = refl
  before-empty (suc k) =
      let a : take {A = ℕ} w [] ≡ [] = take-nil w in
      let b : drop {A = ℕ} w [] ≡ [] = drop-nil w in
      ap₂ (λ (x l : List ℕ). before p (x ∷ cells w k l)) a b ∙ before-later p [] (cells w k []) passed ∙ ap suc (before-empty k)

  -- a search that has come to the last that can be there
  pub before-past : (n most i : ℕ) (r : List ℕ) → length r ≡ most * w → min n most ≤ i → i ≤ n → i + before p (drop i (cells w n r)) ≡ before p (cells w n r) → n ≡ before p (cells w n r)
  before-past n most i r l h le so =
      ⊎_elim
      (λ all. (let e : i ≡ n = omega arith in
      let none_left : drop i (cells w n r) ≡ [] = cells-end w n i r (omega arith) in
      omega (arith, so, ap (before p) none_left)))
      (λ few. (let far : most * w ≤ i * w = mul-le-mul_right w (omega arith) in
      let gone : drop (i * w) r ≡ [] = drop-done r (i * w) (omega arith) in
      let rest = ap (before p) (cells-drop w n i r ∙ ap (cells w (n - i)) gone) ∙ before-empty (n - i) in
      omega (arith, so, rest)))
      (le-or-lt n most)

-- ---- the first fill of a row's order, by the number that the row has: none, past the last, and a slot
module _ (last : ℕ) (m : List ℕ) (row : Row) where
  pub head-none : first_in row ≡ 0 → head_of (slots_in last m) row ≡ []
  head-none h = ap (λ (k : ℕ). numbered k (slots_in last m)) h

  pub head-past : last < first_in row → head_of (slots_in last m) row ≡ []
  head-past h = numbered-past (first_in row) (slots_in last m) (omega (arith, slots_length last m))

  pub head-slot : (i : ℕ) → first_in row ≡ suc i → i < last → head_of (slots_in last m) row ≡ slot_at i m
  head-slot i h l = ap (λ (k : ℕ). numbered k (slots_in last m)) h ∙ cells-nth slot_width last i (region_of slots_here m) l

-- past the end of the memory no number has a fill
numbered-inside : (k last : ℕ) (m : List ℕ) → numbered k (slots_in (min last most_slots) m) ≡ numbered k (slots_in last m)
numbered-inside zero last m = refl
numbered-inside (suc i) last m =
    ⊎_elim
    (λ h. numbered-past (suc i) (slots_in (min last most_slots) m) (omega (arith, slots_length (min last most_slots) m)) ∙ sym (numbered-past (suc i) (slots_in last m) (omega (arith, slots_length last m))))
    (λ h. ⊎_elim
    (λ far. numbered-past (suc i) (slots_in (min last most_slots) m) (omega (arith, slots_length (min last most_slots) m))
    ∙ sym (cells-nth slot_width last i (region_of slots_here m) (omega arith) ∙ slot-past i m far))
    (λ near. cells-nth slot_width (min last most_slots) i (region_of slots_here m) (omega arith) ∙ sym (cells-nth slot_width last i (region_of slots_here m) (omega arith)))
    (le-or-lt most_slots i))
    (le-or-lt last i)

pub head-inside : (last : ℕ) (m : List ℕ) (row : Row) → head_of (slots_in (min last most_slots) m) row ≡ head_of (slots_in last m) row
head-inside last m row = numbered-inside (first_in row) last m

module _ (last orders : ℕ) (m : List ℕ) (f : Slot) where
  abbrev rows : List Row
  rows = rows_in orders m

  abbrev mine : Row → Bool
  mine = is_row_of (slots_in last m) f

  -- ---- a search over the rows
  pub rows_start : 0 + before mine (drop 0 rows) ≡ before mine rows
  rows_start = omega arith

  pub rows-here : (i : ℕ) → i < orders → mine (row_at i m) ≡ true → i + before mine (drop i rows) ≡ before mine rows → i ≡ row_place (slots_in last m) rows f
  unfolding row_place
  rows-here i h e so = before-stop mine i (row_at i m) rows (drop (i + 1) rows) (cells-step row_width orders i (region_of rows_here m) h) e so

  pub rows_on : (i : ℕ) → i < orders → mine (row_at i m) ≡ false → i + before mine (drop i rows) ≡ before mine rows → i + 1 + before mine (drop (i + 1) rows) ≡ before mine rows
  rows_on i h e so = before_on mine i (row_at i m) rows (drop (i + 1) rows) (cells-step row_width orders i (region_of rows_here m) h) e so

  pub rows-past : (i : ℕ) → length m ≡ book_width → min orders most_orders ≤ i → i ≤ orders → i + before mine (drop i rows) ≡ before mine rows → orders ≡ row_place (slots_in last m) rows f
  unfolding row_place
  rows-past i whole h le so = before-past row_width mine (row-empty (slots_in last m) f) orders most_orders i (region_of rows_here m) (rows-wide m whole) h le so

  -- the row of an order lies in the memory
  pub found_inside : length m ≡ book_width → row_place (slots_in last m) rows f < orders → row_place (slots_in last m) rows f < most_orders
  unfolding row_place
  found_inside whole h =
      let i : ℕ = before mine rows in
      let there : i < length rows = omega (arith, rows-length orders m) in
      let passes : mine (get_or rows i []) ≡ true = find-passes mine rows (get_or rows i []) (found-there mine [] rows there) in
      ⊎_elim
      (λ out. contrary passes
      (ap mine (cells-nth row_width orders i (region_of rows_here m) h ∙ part-past (i * row_width) row_width (region_of rows_here m) (omega (arith, rows-wide m whole))) ∙ row-empty (slots_in last m) f))
      (λ inside. inside)
      (le-or-lt most_orders i)

raised-wide : (q : ℕ) (r : Row) → length (raised q r) ≡ row_width
unfolding raised
raised-wide q r = row-wide (first_in r) (counted (booked_in r) q) (counted (waits_in r) q)

-- ---- a row written, from the numbers that were read
module _ (m : List ℕ) (row orders : ℕ) (a b c : ℕ) where
  pub more-old : (count : ℕ) (s : Slot) → row < orders → a ≡ first_in (row_at row m) → b ≡ counted (booked_in (row_at row m)) (shares_of s) → c ≡ counted (waits_in (row_at row m)) (shares_of s)
      → row_put m row (row_of a b c) ≡ row_more m count orders row s
  unfolding row_more raised
  more-old count s h ea eb ec =
      ap (row_put m row)
      (ap (λ (x : ℕ). row_of x b c) ea
      ∙ ap₂ (λ (x y : ℕ). row_of (first_in (row_at row m)) x y) eb ec
      ∙ sym (cond-true (ltb row orders) (raised (shares_of s) (row_at row m)) (row_of (count + 1) (shares_of s) (shares_of s)) (lt-ltb row orders h)))

  pub more-new : (count : ℕ) (s : Slot) → orders ≤ row → a ≡ count + 1 → b ≡ shares_of s → c ≡ shares_of s → row_put m row (row_of a b c) ≡ row_more m count orders row s
  unfolding row_more
  more-new count s h ea eb ec =
      ap (row_put m row)
      (ap (λ (x : ℕ). row_of x b c) ea
      ∙ ap₂ (λ (x y : ℕ). row_of (count + 1) x y) eb ec
      ∙ sym (cond-false (ltb row orders) (raised (shares_of s) (row_at row m)) (row_of (count + 1) (shares_of s) (shares_of s)) (le-ltb row orders h)))

  pub fewer-old : (q : ℕ) → row < orders → a ≡ first_in (row_at row m) → b ≡ booked_in (row_at row m) → c ≡ waits_in (row_at row m) - q
      → row_put m row (row_of a b c) ≡ row_fewer m orders row q
  unfolding row_fewer lowered
  fewer-old q h ea eb ec =
      ap (row_put m row) (ap (λ (x : ℕ). row_of x b c) ea ∙ ap₂ (λ (x y : ℕ). row_of (first_in (row_at row m)) x y) eb ec)
      ∙ sym (cond-true (ltb row orders) (row_put m row (lowered q (row_at row m))) m (lt-ltb row orders h))

pub fewer-out : (m : List ℕ) (row orders q : ℕ) → orders ≤ row → m ≡ row_fewer m orders row q
unfolding row_fewer
fewer-out m row orders q h = sym (cond-false (ltb row orders) (row_put m row (lowered q (row_at row m))) m (le-ltb row orders h))

-- ---- the memory with a slot more
module _ (m : List ℕ) (count orders row : ℕ) (s : Slot) where
  pub entered-fill : {m₁ m₂ : List ℕ} → fits_after count s ≡ true → is_fill s ≡ true → m₁ ≡ appended m count s → m₂ ≡ row_more m₁ count orders row s → m₂ ≡ entered m count orders row s
  unfolding entered
  entered-fill {m₁} {m₂} t f e₁ e₂ =
      e₂ ∙ ap (λ (x : List ℕ). row_more x count orders row s) e₁
      ∙ sym (cond-true (is_fill s) (row_more (appended m count s) count orders row s) (appended m count s) f)
      ∙ sym (cond-true (fits_after count s) (cond (is_fill s) (row_more (appended m count s) count orders row s) (appended m count s)) m t)

  pub entered-other : {m₁ : List ℕ} → fits_after count s ≡ true → is_fill s ≡ false → m₁ ≡ appended m count s → m₁ ≡ entered m count orders row s
  unfolding entered
  entered-other t f e₁ =
      e₁
      ∙ sym (cond-false (is_fill s) (row_more (appended m count s) count orders row s) (appended m count s) f)
      ∙ sym (cond-true (fits_after count s) (cond (is_fill s) (row_more (appended m count s) count orders row s) (appended m count s)) m t)

  pub entered-none : fits_after count s ≡ false → m ≡ entered m count orders row s
  unfolding entered
  entered-none t = sym (cond-false (fits_after count s) (cond (is_fill s) (row_more (appended m count s) count orders row s) (appended m count s)) m t)

-- ---- a slot acknowledged
module _ (m : List ℕ) (whole : length m ≡ book_width) (last orders : ℕ) (s : Slot) where
  pub alone-own : RowsAlone m orders m
  alone-own = sym (laid-own rows_here row_width orders m)

  -- no fill: nothing changes
  pub takes_none : (day : ℕ) → is_fill s ≡ false → TakesOne m last orders s day day m
  unfolding day_less rows_less
  takes_none day f = record {
    sum = sym (cond-false (is_fill s) (day - shares_of s) day f);
    rows = sym (cond-false (is_fill s) (on_first (is_row_of (slots_in last m) s) (lowered (shares_of s)) (rows_in orders m)) (rows_in orders m) f);
    alone = alone-own;
  }

  fewer-rows : (row q : ℕ) → row ≡ row_place (slots_in last m) (rows_in orders m) s
      → (rows_in orders (row_fewer m orders row q) ≡ on_first (is_row_of (slots_in last m) s) (lowered q) (rows_in orders m)) × RowsAlone m orders (row_fewer m orders row q)
  unfolding row_fewer row_place lowered
  fewer-rows row q e =
      let p = is_row_of (slots_in last m) s in
      let l = rows-length orders m in
      ⊎_elim
      (λ out. (let stays = cond-false (ltb row orders) (row_put m row (lowered q (row_at row m))) m (le-ltb row orders out) in (
        ap (rows_in orders) stays ∙ sym (first-none p (lowered q) (rows_in orders m) (omega arith)),
        subst (RowsAlone m orders) (sym stays) alone-own,
      )))
      (λ old. (let r : Row = lowered q (row_at row m) in
      let put = cond-true (ltb row orders) (row_put m row r) m (lt-ltb row orders old) in
      let inside : row < most_orders = subst (λ (k : ℕ). k < most_orders) (sym e) (found_inside last orders m s whole (subst (λ (k : ℕ). k < orders) e old)) in
      let wide : length r ≡ row_width = row-wide (first_in (row_at row m)) (booked_in (row_at row m)) (waits_in (row_at row m) - q) in
      let there : before p (rows_in orders m) < length (rows_in orders m) = omega arith in (
        ap (rows_in orders) put
            ∙ put-set m whole row r wide inside orders old
            ∙ ap (λ (x : Row). set (rows_in orders m) row (lowered q x)) (sym (cells-nth row_width orders row (region_of rows_here m) old))
            ∙ ap (λ (k : ℕ). set (rows_in orders m) k (lowered q (get_or (rows_in orders m) k []))) e
            ∙ sym (first-set p (lowered q) (rows_in orders m) there),
        subst (RowsAlone m orders) (sym put) (sym (laid-put m whole row r wide inside orders old)),
      )))
      (le-or-lt orders row)

  pub takes-fill : (row q day r : ℕ) (m' : List ℕ) → is_fill s ≡ true → q ≡ shares_of s → row ≡ row_place (slots_in last m) (rows_in orders m) s → m' ≡ row_fewer m orders row q → r ≡ day - q
      → TakesOne m last orders s day r m'
  unfolding day_less rows_less
  takes-fill row q day r m' f eq er em ed =
      let both = fewer-rows row q er in
      record {
        sum = ed ∙ ap (λ (k : ℕ). day - k) eq ∙ sym (cond-true (is_fill s) (day - shares_of s) day f);
        rows = ap (rows_in orders) em
            ∙ both.0
            ∙ ap (λ (k : ℕ). on_first (is_row_of (slots_in last m) s) (lowered k) (rows_in orders m)) eq
            ∙ sym (cond-true (is_fill s) (on_first (is_row_of (slots_in last m) s) (lowered (shares_of s)) (rows_in orders m)) (rows_in orders m) f);
        alone = subst (RowsAlone m orders) (sym em) both.1;
      }

  -- either way there is such a memory
  pub takes_one : (m' : List ℕ) × (RowsAlone m orders m' × (rows_in orders m' ≡ rows_less (slots_in last m) (rows_in orders m) s))
  takes_one =
      ⊎_elim
      (λ f. (let t = takes-fill (row_place (slots_in last m) (rows_in orders m) s) (shares_of s) 0 (0 - shares_of s) _ f refl refl refl refl in (_, (t.alone, t.rows))))
      (λ f. (let t = takes_none 0 f in (_, (t.alone, t.rows))))
      (bool_case (is_fill s))

-- ---- slots acknowledged one after another
-- the rows alone, once more
pub alone-on : (m₀ m m' : List ℕ) (orders : ℕ) → length m₀ ≡ book_width → length m ≡ book_width → length m' ≡ book_width → RowsAlone m₀ orders m → RowsAlone m orders m' → RowsAlone m₀ orders m'
alone-on m₀ m m' orders l₀ l l' a b =
    let x : List ℕ = joined (rows_in orders m) in
    let y : List ℕ = joined (rows_in orders m') in
    let same-long : length x ≡ length y =
    ap length (joined-cells row_width orders (region_of rows_here m))
    ∙ length-take (orders * row_width) (region_of rows_here m)
    ∙ ap (min (orders * row_width)) (rows-wide m l ∙ sym (rows-wide m' l'))
    ∙ sym (length-take (orders * row_width) (region_of rows_here m'))
    ∙ sym (ap length (joined-cells row_width orders (region_of rows_here m'))) in
    b ∙ ap (λ (z : List ℕ). splice z rows_here.at y) a ∙ splice-over m₀ rows_here.at x y same-long

pub alone-length : (m m' : List ℕ) (orders : ℕ) → RowsAlone m orders m' → length m' ≡ length m
alone-length m m' orders a = ap length a ∙ splice-length m rows_here.at (joined (rows_in orders m'))

pub alone-slots : (m m' : List ℕ) (orders n : ℕ) → length m ≡ book_width → RowsAlone m orders m' → slots_in n m' ≡ slots_in n m
alone-slots m m' orders n l a = ap (slots_in n) a ∙ slots-laid m l n orders m'

-- no slot of no bytes is a fill
nothing-fills : is_fill [] ≡ false
nothing-fills = refl

module _ (ss : List Slot) where
  none-taken : (k : ℕ) (rows : List Row) (day : ℕ) → (rows_without ss rows (cells slot_width k []) ≡ rows) × (day_without day (cells slot_width k []) ≡ day)
  unfolding cells rows_without day_without rows_less day_less
  none-taken zero rows day = (refl, refl)
  none-taken (suc k) rows day = none-taken k rows day

none_left : (ss : List Slot) (rows : List Row) (day : ℕ) → (rows_without ss rows [] ≡ rows) × (day_without day [] ≡ day)
unfolding rows_without day_without
none_left ss rows day = (refl, refl)

-- the first `to` of n cells
take_cells : (w n to : ℕ) (r : List ℕ) → take to (cells w n r) ≡ cells w (min to n) r
unfolding cells
take_cells w n zero r = let e : 0 ≡ min 0 n = omega arith in ap (λ (k : ℕ). cells w k r) e
take_cells w zero (suc to) r = let e : 0 ≡ min (suc to) 0 = omega arith in ap (λ (k : ℕ). cells w k r) e
take_cells w (suc n) (suc to) r =
    let e : suc (min to n) ≡ min (suc to) (suc n) = omega arith in
    ap (λ (l : List (List ℕ)). take w r ∷ l) (take_cells w n to (drop w r)) ∙ ap (λ (k : ℕ). cells w k r) e

module _ (m : List ℕ) (last to : ℕ) where
  abbrev up_to : List Slot
  up_to = take to (slots_in last m)

  pub taken_step : (i : ℕ) → i < to → i < last → drop i up_to ≡ slot_at i m ∷ drop (i + 1) up_to
  taken_step i h g =
      let e = take_cells slot_width last to (region_of slots_here m) in
      ap (drop i) e ∙ cells-step slot_width (min to last) i (region_of slots_here m) (omega arith) ∙ ap (λ (l : List Slot). slot_at i m ∷ drop (i + 1) l) (sym e)

  -- past the last that can be there
  pub taken-rest : (i : ℕ) (rows : List Row) (day : ℕ) → length m ≡ book_width → min (min to last) most_slots ≤ i
      → (rows_without (slots_in last m) rows (drop i up_to) ≡ rows) × (day_without day (drop i up_to) ≡ day)
  taken-rest i rows day whole h =
      let e = ap (drop i) (take_cells slot_width last to (region_of slots_here m)) in
      let P : List Slot → Type 0 = λ ts. (rows_without (slots_in last m) rows ts ≡ rows) × (day_without day ts ≡ day) in
      let n = min to last in
      ⊎_elim
      (λ all. subst P (sym (e ∙ cells-end slot_width n i (region_of slots_here m) all)) (none_left (slots_in last m) rows day))
      (λ few. (let gone : drop (i * slot_width) (region_of slots_here m) ≡ [] = drop-done (region_of slots_here m) (i * slot_width) (omega (arith, slots-wide m whole)) in
      subst P (sym (e ∙ cells-drop slot_width n i (region_of slots_here m) ∙ ap (cells slot_width (n - i)) gone)) (none-taken (slots_in last m) (n - i) rows day)))
      (le-or-lt n i)

-- a turn: what is left to take from the memory m, whose slots are those of m₀
pub record Taking (m₀ m : List ℕ) (last orders from to day left i : ℕ) : Type 0 where
  pub rows : rows_without (slots_in last m₀) (rows_in orders m) (drop i (take to (slots_in last m₀))) ≡ rows_without (slots_in last m₀) (rows_in orders m₀) (between from to (slots_in last m₀))
  pub sum : day_without left (drop i (take to (slots_in last m₀))) ≡ day_without day (between from to (slots_in last m₀))
  pub alone : RowsAlone m₀ orders m

module _ (m₀ m : List ℕ) (whole : length m₀ ≡ book_width) (last orders from to day left i : ℕ) where
  pub taking-on : (r : ℕ) (m' : List ℕ) → i < to → i < last → Taking m₀ m last orders from to day left i → TakesOne m last orders (slot_at i m) left r m'
      → Taking m₀ m' last orders from to day r (i + 1)
  unfolding rows_without day_without
  taking-on r m' h g t o =
      let l = alone-length m₀ m orders t.alone ∙ whole in
      let l' = alone-length m m' orders o.alone ∙ l in
      let ss = slots_in last m₀ in
      let es : slots_in last m ≡ ss = alone-slots m₀ m orders last whole t.alone in
      let at : slot_at i m ≡ slot_at i m₀ = sym (cells-nth slot_width last i (region_of slots_here m) g) ∙ ap (λ (xs : List Slot). get_or xs i []) es ∙ cells-nth slot_width last i (region_of slots_here m₀) g in
      let step = taken_step m₀ last to i h g in
      let rest = drop (i + 1) (take to ss) in
      record {
        rows = ap (λ (x : List Row). rows_without ss x rest) (o.rows ∙ ap₂ (λ (xs : List Slot) (s : Slot). rows_less xs (rows_in orders m) s) es at)
            ∙ ap (rows_without ss (rows_in orders m)) (sym step)
            ∙ t.rows;
        sum = ap (λ (d : ℕ). day_without d rest) (o.sum ∙ ap (day_less left) at) ∙ ap (day_without left) (sym step) ∙ t.sum;
        alone = alone-on m₀ m m' orders whole l l' t.alone o.alone;
      }

  pub taking-done : min (min to last) most_slots ≤ i → Taking m₀ m last orders from to day left i
      → (left ≡ day_without day (between from to (slots_in last m₀))) × (m ≡ laid rows_here m₀ (rows_without (slots_in last m₀) (rows_in orders m₀) (between from to (slots_in last m₀))))
  taking-done h t =
      let rest = taken-rest m₀ last to i (rows_in orders m) left whole h in
      (sym rest.1 ∙ t.sum, t.alone ∙ ap (laid rows_here m₀) (sym rest.0 ∙ t.rows))

-- ---- the memory with a slot more has one slot more, and its contracts in its order's row
module _ (m : List ℕ) (whole : length m ≡ book_width) (count : ℕ) (load : Load) (s : Slot) (wide : length s ≡ slot_width) (kind : (is_fill s ≡ true) ⊎ (is_entry s ≡ true))
    (room : has_room (slots_in count m) (rows_in load.orders m) load s ≡ true) where
  abbrev ss : List Slot
  ss = slots_in count m

  abbrev old : List Row
  old = rows_in load.orders m

  -- where its row stands, as a booking has it
  abbrev row : ℕ
  row = row_to ss old s

  left : count < most_slots
  left = omega (arith, slots_length count m, (has_room_lem ss old load s room).slot-left)

  abbrev m₁ : List ℕ
  m₁ = appended m count s

  whole₁ : length m₁ ≡ book_width
  whole₁ = appended-length m count s ∙ whole

  fits : fits_after count s ≡ true
  fits = and-make (ltb count most_slots) (eqb (length s) slot_width) (lt-ltb count most_slots left) (eq-eqb (length s) slot_width wide)

  rows₁ : (n : ℕ) → rows_in n m₁ ≡ rows_in n m
  rows₁ = rows_append m whole count s left wide

  -- what is then true of the rows, with r written at place i, one of n
  Done : List ℕ → Type 0
  Done m' =
      (slots_in (count + 1) m' ≡ ss ++ (s ∷ [])) × (rows_in (load_with ss old load s).orders m' ≡ rows_with ss old s) × (holding m (ss ++ (s ∷ [])) (rows_with ss old s) ≡ m')

  -- an entry
  entry_done : is_entry s ≡ true → Done (entered m count load.orders row s)
  unfolding rows_with holding Done
  entry_done e =
      let no-fill = entry-no-fill s e in
      let m' : entered m count load.orders row s ≡ m₁ = sym (entered-other m count load.orders row s fits no-fill refl) in
      let same_rows : rows_with ss old s ≡ old = cond-false (is_fill s) (more_of ss old s) old no-fill in
      let many : (load_with ss old load s).orders ≡ load.orders = ap (λ (l : Load). l.orders) (load-as s e ss old load) in
      subst Done (sym m') (
        slots-append m whole count s left wide,
        ap (λ (n : ℕ). rows_in n m₁) many ∙ rows₁ load.orders ∙ sym same_rows,
        ap₂ (λ (x : List ℕ) (y : List Row). laid rows_here x y) (laid-append m whole count s left wide) (same_rows ∙ sym (rows₁ load.orders))
            ∙ laid-own rows_here row_width load.orders m₁,
      )

  -- a fill: with r written at place i, one of n
  written-done : (i n : ℕ) (r : Row) → i < n → i < most_orders → length r ≡ row_width → (load_with ss old load s).orders ≡ n → rows_in n (row_put m₁ i r) ≡ rows_with ss old s
      → Done (row_put m₁ i r)
  unfolding holding Done
  written-done i n r h inside long many now-rows = (
    slots-put m₁ whole₁ i r long (count + 1) ∙ slots-append m whole count s left wide,
    ap (λ (k : ℕ). rows_in k (row_put m₁ i r)) many ∙ now-rows,
    ap₂ (λ (x : List ℕ) (y : List Row). laid rows_here x y) (laid-append m whole count s left wide) (sym now-rows) ∙ laid-put m₁ whole₁ i r long inside n h,
  )

  fill_done : is_fill s ≡ true → Done (entered m count load.orders row s)
  unfolding rows_with row_more row_place
  fill_done f =
      let no-entry = fill-no-entry s f in
      let p = is_row_of ss s in
      let at : row ≡ before p old = cond-false (is_entry s) 0 (row_place ss old s) no-entry in
      let l = rows-length load.orders m in
      let m' : entered m count load.orders row s ≡ row_more m₁ count load.orders row s = sym (entered-fill m count load.orders row s fits f refl refl) in
      let with_rows : rows_with ss old s ≡ more_of ss old s = cond-true (is_fill s) (more_of ss old s) old f in
      let orders = ap (λ (x : Load). x.orders) (load-as s no-entry ss old load) in
      ⊎_elim
      (λ known. (let place = known-place ss old s known in
      let i<n : row < load.orders = omega arith in
      let inside : row < most_orders = subst (λ (k : ℕ). k < most_orders) (sym at) (found_inside count load.orders m s whole (omega arith)) in
      let r₁ : Row = row_at row m₁ in
      let r : Row = raised (shares_of s) r₁ in
      let long : length r ≡ row_width = raised-wide (shares_of s) r₁ in
      let put : row_more m₁ count load.orders row s ≡ row_put m₁ row r =
      ap (row_put m₁ row) (cond-true (ltb row load.orders) r (row_of (count + 1) (shares_of s) (shares_of s)) (lt-ltb row load.orders i<n)) in
      let old_row : r₁ ≡ get_or old row [] = sym (cells-nth row_width load.orders row (region_of rows_here m₁) i<n) ∙ ap (λ (xs : List Row). get_or xs row []) (rows₁ load.orders) in
      subst Done (sym (m' ∙ put))
      (written-done row load.orders r i<n inside long (orders ∙ ap (λ (b : Bool). orders_with b load.orders) known)
      (put-set m₁ whole₁ row r long inside load.orders i<n
      ∙ ap₂ (λ (xs : List Row) (x : Row). set xs row (raised (shares_of s) x)) (rows₁ load.orders) old_row
      ∙ ap (λ (k : ℕ). set old k (raised (shares_of s) (get_or old k []))) at
      ∙ sym (first-set p (raised (shares_of s)) old (omega arith))
      ∙ sym (cond-true (is_known ss old s) (on_first p (raised (shares_of s)) old) (old ++ (row_of (length ss + 1) (shares_of s) (shares_of s) ∷ [])) known)
      ∙ sym with_rows))))
      (λ new. (let place : before p old ≡ length old = unknown-place ss old s new in
      let i=n : row ≡ load.orders = omega arith in
      let few : load.orders < most_orders = ltb-true load.orders most_orders
      (⊎_elim (λ k. contrary k new) (λ k. k) (or_cases (is_known ss old s) (ltb load.orders most_orders) ((has_room_lem ss old load s room).order-left no-entry))) in
      let r : Row = row_of (count + 1) (shares_of s) (shares_of s) in
      let long : length r ≡ row_width = row-wide (count + 1) (shares_of s) (shares_of s) in
      let put : row_more m₁ count load.orders row s ≡ row_put m₁ row r =
      ap (row_put m₁ row) (cond-false (ltb row load.orders) (raised (shares_of s) (row_at row m₁)) r (le-ltb row load.orders (omega arith))) in
      let inside : row < most_orders = omega arith in
      subst Done (sym (m' ∙ put))
      (written-done row (row + 1) r (omega arith) inside long (orders ∙ ap (λ (b : Bool). orders_with b load.orders) new ∙ ap (λ (k : ℕ). k + 1) (sym i=n))
      (put-append m₁ whole₁ row r long inside
      ∙ ap (λ (xs : List Row). xs ++ (r ∷ [])) (rows₁ row ∙ ap (λ (k : ℕ). rows_in k m) i=n)
      ∙ ap (λ (k : ℕ). old ++ (row_of (k + 1) (shares_of s) (shares_of s) ∷ [])) (sym (slots_length count m))
      ∙ sym (cond-false (is_known ss old s) (on_first p (raised (shares_of s)) old) (old ++ (row_of (length ss + 1) (shares_of s) (shares_of s) ∷ [])) new)
      ∙ sym with_rows))))
      (bool_case (is_known ss old s))

  entered-done : Done (entered m count load.orders row s)
  entered-done = ⊎_elim fill_done entry_done kind

  pub entered-slots : slots_in (count + 1) (entered m count load.orders row s) ≡ ss ++ (s ∷ [])
  unfolding Done
  entered-slots = entered-done.0

  pub entered-rows : rows_in (load_with ss old load s).orders (entered m count load.orders row s) ≡ rows_with ss old s
  unfolding Done
  entered-rows = entered-done.1

  pub entered-holds : holding m (ss ++ (s ∷ [])) (rows_with ss old s) ≡ entered m count load.orders row s
  unfolding Done
  entered-holds = entered-done.2

pub entered-length : (m : List ℕ) (count orders row : ℕ) (s : Slot) → length (entered m count orders row s) ≡ length m
unfolding entered row_more
entered-length m count orders row s =
    of-cond (λ (l : List ℕ). length l ≡ length m) (fits_after count s)
    (λ t. of-cond (λ (l : List ℕ). length l ≡ length m) (is_fill s)
    (λ f. put-length (appended m count s) row
    (cond (ltb row orders) (raised (shares_of s) (row_at row (appended m count s))) (row_of (count + 1) (shares_of s) (shares_of s))) ∙ appended-length m count s)
    (λ f. appended-length m count s))
    (λ t. refl)

-- ---- the rows with what is acknowledged taken off stand in the memory over which they are laid
module _ (last orders : ℕ) where
  taken-there : (taken : List Slot) (m : List ℕ) → length m ≡ book_width
      → (m' : List ℕ) × (RowsAlone m orders m' × (rows_in orders m' ≡ rows_without (slots_in last m) (rows_in orders m) taken))
  unfolding rows_without rows_less
  taken-there [] m whole = (m, (alone-own m whole last orders [], refl))
  taken-there (s ∷ taken) m whole =
      let ss : List Slot = slots_in last m in
      let one = takes_one m whole last orders s in
      let m₁ = one.0 in
      let l₁ = alone-length m m₁ orders one.1.0 ∙ whole in
      let more = taken-there taken m₁ l₁ in
      let l₂ = alone-length m₁ more.0 orders more.1.0 ∙ l₁ in (
        more.0,
        (
          alone-on m m₁ more.0 orders whole l₁ l₂ one.1.0 more.1.0,
          more.1.1
              ∙ ap (λ (xs : List Slot). rows_without xs (rows_in orders m₁) taken) (alone-slots m m₁ orders last whole one.1.0)
              ∙ ap (λ (x : List Row). rows_without ss x taken) one.1.1,
        ),
      )

  pub taken-read : (taken : List Slot) (m : List ℕ) → length m ≡ book_width
      → rows_in orders (laid rows_here m (rows_without (slots_in last m) (rows_in orders m) taken)) ≡ rows_without (slots_in last m) (rows_in orders m) taken
  taken-read taken m whole =
      let t = taken-there taken m whole in
      ap (rows_in orders) (ap (laid rows_here m) (sym t.1.1) ∙ sym t.1.0) ∙ t.1.1

  pub taken-slots : (taken : List Slot) (m : List ℕ) (n : ℕ) → length m ≡ book_width
      → slots_in n (laid rows_here m (rows_without (slots_in last m) (rows_in orders m) taken)) ≡ slots_in n m
  taken-slots taken m n whole =
      let t = taken-there taken m whole in
      ap (λ (x : List Row). slots_in n (laid rows_here m x)) (sym t.1.1) ∙ slots-laid m whole n orders t.0
