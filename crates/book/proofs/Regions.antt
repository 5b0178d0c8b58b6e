-- The regions of the lent memory: a write to one leaves the others, and what is laid over one is read back.
--     region-write, region-apart     a write within a region is one of the region's bytes, and leaves every other region
--     write-laid     what was written, laid over the memory as the front of its region
--     slots-.., rows-..     the slots and the rows after each way of writing them
use mathlib.Core.Path.{◌≡◌, refl, sym, ap, ap₂, ◌∙◌}
use mathlib.Core.Logic.{◌⊎◌, inl, inr, ⊎_elim}
use mathlib.Core.List.{List, [], ◌∷◌, ◌++◌, append_assoc}
use mathlib.Core.Bool.{false}
use Prim.Native.Nat.{ℕ, ◌+◌, ◌-◌, ◌*◌, ◌≤◌, ◌<◌, min}
use native.Mathlib.Nat.{mul-le-mul_right}
use native.Mathlib.Omega.{arith}
use lib.ListN.{length, take, drop, set, length-append, length-take, length-drop}
use lib.Seq.{length-take-le, take-take, take_all, take-length, drop-drop, drop-append-le, take-append-add}
use lib.Dec.{ltb, eqb}
use borrow.Author.Tests.{lt-ltb, le-ltb, eq-eqb}
use Rattle.octet.specs.Bytes.{part, joined}
use Rattle.octet.specs.Splice.{splice}
use Rattle.octet.specs.Places.{HighFirst, high}
use Rattle.octet.proofs.Cases.{of-cond, and-make, cond-true, cond-false, le-or-lt}
use Rattle.octet.proofs.Lists.{length_part, part-most, part-past, part-take, part-splice-before, part-splice-after, splice-in, splice-nil, splice-same, splice-before, splice-after, splice-length, splice-then, cut-in-three, drop-take}
use Rattle.octet.proofs.Places.{number-length}
use Rattle.fill.specs.Slot.{Slot, slot_width}
use Rattle.book.specs.Place.{most_orders}
use Rattle.book.specs.Rows.{Row, row_width, row_of}
use Rattle.book.specs.Memory.{Region, region_of, slots_here, rows_here, most_slots, book_width, cells, laid, slots_in, slot_at, fits_after, appended, rows_in, row_put, holding}
use Rattle.book.proofs.Cells.{cells-length, cells-step, cells-end, cells-append, cells-set, cells-joined, joined-cells, joined_length, cells-inside, Wide}

-- ---- a write, seen from behind and from the front
drop-splice : (m : List ℕ) (a p : ℕ) (s : List ℕ) → a + p + length s ≤ length m → drop a (splice m (a + p) s) ≡ splice (drop a m) p s
drop-splice m a p s h =
    let l : length (take (a + p) m) ≡ a + p = length-take-le (a + p) m (omega arith) in
    let e : a + (p + length s) ≡ a + p + length s = omega arith in
    ap (drop a) (splice-in m (a + p) s h ∙ append_assoc (take (a + p) m) s (drop (a + p + length s) m))
    ∙ drop-append-le a (take (a + p) m) (s ++ drop (a + p + length s) m) (omega arith)
    ∙ ap₂ (λ (x y : List ℕ). x ++ (s ++ y)) (part-take a p m) (sym (drop-drop (p + length s) a m ∙ ap (λ (k : ℕ). drop k m) e))
    ∙ sym (append_assoc (take p (drop a m)) s (drop (p + length s) (drop a m)))
    ∙ sym (splice-in (drop a m) p s (omega (arith, length-drop a m)))

take-splice : (d : List ℕ) (k p : ℕ) (s : List ℕ) → p + length s ≤ k → k ≤ length d → take k (splice d p s) ≡ splice (take k d) p s
take-splice d k p s h l =
    let x : List ℕ = take p d ++ s in
    let lp : length (take p d) ≡ p = length-take-le p d (omega arith) in
    let lx : length x ≡ p + length s = omega (arith, length-append (take p d) s) in
    let e : k ≡ length x + (k - (p + length s)) = omega arith in
    let lk : length (take k d) ≡ k = length-take-le k d l in
    ap (take k) (splice-in d p s (omega arith))
    ∙ ap (λ (n : ℕ). take n (x ++ drop (p + length s) d)) e
    ∙ take-append-add x (drop (p + length s) d) (k - (p + length s))
    ∙ ap₂ (λ (a b : List ℕ). a ++ s ++ b) (sym (take-take p k d (omega arith))) (sym (drop-take (p + length s) k d))
    ∙ sym (splice-in (take k d) p s (omega arith))

-- ---- any region
module _ (r : Region) (m : List ℕ) (room : r.at + r.wide ≤ length m) where
  pub region-length : length (region_of r m) ≡ r.wide
  region-length = length_part r.at r.wide m room

  -- a write within it is one of its own bytes
  pub region-write : (p : ℕ) (s : List ℕ) → p + length s ≤ r.wide → region_of r (splice m (r.at + p) s) ≡ splice (region_of r m) p s
  region-write p s h =
      ap (take r.wide) (drop-splice m r.at p s (omega arith))
      ∙ take-splice (drop r.at m) r.wide p s h (omega (arith, length-drop r.at m))

  -- and leaves every other region: THE law of the regions
  pub region-apart : (o : Region) (p : ℕ) (s : List ℕ) → p + length s ≤ r.wide → (r.at + r.wide ≤ o.at) ⊎ (o.at + o.wide ≤ r.at)
      → region_of o (splice m (r.at + p) s) ≡ region_of o m
  region-apart o p s h apart =
      ⊎_elim
      (λ behind. part-splice-after m (r.at + p) s o.at o.wide (omega arith))
      (λ before. part-splice-before m (r.at + p) s o.at o.wide (omega arith))
      apart

  -- what was written is the memory with the front of the region laid over it, if that goes far enough
  pub write-laid : (p k : ℕ) (s : List ℕ) → p + length s ≤ k → k ≤ r.wide → splice m r.at (take k (region_of r (splice m (r.at + p) s))) ≡ splice m (r.at + p) s
  write-laid p k s h l =
      let m' : List ℕ = splice m (r.at + p) s in
      let a : ℕ = r.at in
      let lm : length m' ≡ length m = splice-length m (a + p) s in
      let x : take k (region_of r m') ≡ part a k m' = take-take k r.wide (drop a m') l in
      let lx : length (part a k m') ≡ k = length_part a k m' (omega arith) in
      ap (splice m a) x
      ∙ splice-in m a (part a k m') (omega arith)
      ∙ ap₂ (λ (u v : List ℕ). u ++ part a k m' ++ v)
      (sym (splice-before m (a + p) s a (omega arith)))
      (ap (λ (n : ℕ). drop (a + n) m) lx ∙ sym (splice-after m (a + p) s (a + k) (omega arith)))
      ∙ cut-in-three a k m'

-- ---- the slots and the rows
module _ (m : List ℕ) (whole : length m ≡ book_width) where
  pub slots-room : slots_here.at + slots_here.wide ≤ length m
  slots-room = omega arith

  pub rows-room : rows_here.at + rows_here.wide ≤ length m
  rows-room = omega arith

  pub slots-wide : length (region_of slots_here m) ≡ most_slots * slot_width
  slots-wide = region-length slots_here m slots-room

  pub rows-wide : length (region_of rows_here m) ≡ most_orders * row_width
  rows-wide = region-length rows_here m rows-room

-- ---- a memory holds its own cells
-- what stands at a place, written there
splice-own : (m : List ℕ) (at k : ℕ) → splice m at (part at k m) ≡ m
splice-own m at k =
    ⊎_elim
    (λ past. ap (splice m at) (part-past at k m past) ∙ splice-nil m at)
    (λ there. (let l = length-take k (drop at m) in
    let d = length-drop at m in
    let n : ℕ = length (part at k m) in
    let e : part at n m ≡ part at k m = ⊎_elim
    (λ few. (let f : n ≡ k = omega arith in ap (λ (j : ℕ). part at j m) f))
    (λ many. (let f : n ≡ length (drop at m) = omega arith in ap (λ (j : ℕ). take j (drop at m)) f ∙ take-length (drop at m) ∙ sym (take_all k (drop at m) (omega arith))))
    (le-or-lt k (length (drop at m))) in
    ap (splice m at) (sym e) ∙ splice-same m at n (omega arith)))
    (le-or-lt (length m) at)

pub laid-own : (r : Region) (w n : ℕ) (m : List ℕ) → laid r m (cells w n (region_of r m)) ≡ m
laid-own r w n m =
    ap (splice m r.at) (joined-cells w n (region_of r m) ∙ shorter (drop r.at m) (n * w) r.wide) ∙ splice-own m r.at (min (n * w) r.wide)
  where
    shorter : (l : List ℕ) (a b : ℕ) → take a (take b l) ≡ take (min a b) l
    shorter l a b =
        ⊎_elim
        (λ h. (let e : a ≡ min a b = omega arith in take-take a b l h ∙ ap (λ (k : ℕ). take k l) e))
        (λ h. (let e : b ≡ min a b = omega arith in take_all a (take b l) (omega (arith, length-take b l)) ∙ ap (λ (k : ℕ). take k l) e))
        (le-or-lt a b)

-- ---- the cells of a region
module _ (r : Region) (w most : ℕ) (cut : r.wide ≡ most * w) (m : List ℕ) (room : r.at + r.wide ≤ length m) where
  -- what was written within n cells is the memory with these cells laid over it
  pub laid-write : (n p : ℕ) (s : List ℕ) → p + length s ≤ min n most * w
      → laid r m (cells w n (region_of r (splice m (r.at + p) s))) ≡ splice m (r.at + p) s
  laid-write n p s h =
      let m' : List ℕ = splice m (r.at + p) s in
      let few : min n most * w ≤ most * w = mul-le-mul_right w (omega arith) in
      let long : length (region_of r m') ≡ most * w = region-length r m' (omega (arith, splice-length m (r.at + p) s)) ∙ cut in
      ap (splice m r.at) (joined-cells w n (region_of r m') ∙ sym (cells-inside w (region_of r m') n most long))
      ∙ write-laid r m room p (min n most * w) s h (omega arith)

  -- cells that are laid over it are read back
  pub laid-read : (xs : List (List ℕ)) → Wide w xs → length xs ≤ most → cells w (length xs) (region_of r (laid r m xs)) ≡ xs
  laid-read xs v few =
      let l : length (joined xs) ≡ length xs * w = joined_length w xs v in
      let f : length xs * w ≤ most * w = mul-le-mul_right w few in
      let e : r.at + 0 ≡ r.at = omega arith in
      let h : 0 + length (joined xs) ≤ r.wide = omega arith in
      ap (cells w (length xs))
      (ap (λ (k : ℕ). region_of r (splice m k (joined xs))) (sym e)
      ∙ region-write r m room 0 (joined xs) h
      ∙ splice-in (region_of r m) 0 (joined xs) (omega (arith, region-length r m room)))
      ∙ cells-joined w xs (drop (0 + length (joined xs)) (region_of r m)) v

  -- and leave every other region, as many as they are, if they are the cells of this region of a memory as long
  pub laid-apart : (o : Region) (xs : List (List ℕ)) → length (joined xs) ≤ r.wide → (r.at + r.wide ≤ o.at) ⊎ (o.at + o.wide ≤ r.at)
      → region_of o (laid r m xs) ≡ region_of o m
  laid-apart o xs h apart =
      let e : r.at + 0 ≡ r.at = omega arith in
      ap (λ (k : ℕ). region_of o (splice m k (joined xs))) (sym e) ∙ region-apart r m room o 0 (joined xs) (omega arith) apart

  pub cells-few : (n : ℕ) (m' : List ℕ) → length (joined (cells w n (region_of r m'))) ≤ r.wide
  cells-few n m' =
      let a = ap length (joined-cells w n (region_of r m')) in
      omega (arith, length-take (n * w) (region_of r m'), length-take r.wide (drop r.at m'))

-- ---- the slots and the rows of a book
pub slots_length : (n : ℕ) (m : List ℕ) → length (slots_in n m) ≡ n
slots_length n m = cells-length slot_width n (region_of slots_here m)

pub rows-length : (n : ℕ) (m : List ℕ) → length (rows_in n m) ≡ n
rows-length n m = cells-length row_width n (region_of rows_here m)

module _ (n i : ℕ) (m : List ℕ) where
  pub slots-step : i < n → drop i (slots_in n m) ≡ slot_at i m ∷ drop (i + 1) (slots_in n m)
  slots-step = cells-step slot_width n i (region_of slots_here m)

  pub slots_end : n ≤ i → drop i (slots_in n m) ≡ []
  slots_end = cells-end slot_width n i (region_of slots_here m)

-- past the end of the memory a slot is of no bytes
pub slot-past : (i : ℕ) (m : List ℕ) → most_slots ≤ i → slot_at i m ≡ []
slot-past i m h = part-past (i * slot_width) slot_width (region_of slots_here m) (omega (arith, part-most 0 (most_slots * slot_width) m))

pub appended-in : (m : List ℕ) (count : ℕ) (s : Slot) → count < most_slots → length s ≡ slot_width → appended m count s ≡ splice m (slots_here.at + count * slot_width) s
unfolding appended
appended-in m count s h e =
    cond-true _ _ _ (and-make (ltb count most_slots) (eqb (length s) slot_width) (lt-ltb count most_slots h) (eq-eqb (length s) slot_width e))

pub appended-out : (m : List ℕ) (count : ℕ) (s : Slot) → fits_after count s ≡ false → appended m count s ≡ m
unfolding appended
appended-out m count s e = cond-false _ _ _ e

pub appended-length : (m : List ℕ) (count : ℕ) (s : Slot) → length (appended m count s) ≡ length m
unfolding appended
appended-length m count s = of-cond (λ (l : List ℕ). length l ≡ length m) (fits_after count s) (λ e. splice-length m (slots_here.at + count * slot_width) s) (λ e. refl)

pub put_in : (m : List ℕ) (i : ℕ) (r : Row) → i < most_orders → row_put m i r ≡ splice m (rows_here.at + i * row_width) r
unfolding row_put
put_in m i r h = cond-true _ _ _ (lt-ltb i most_orders h)

pub put-out : (m : List ℕ) (i : ℕ) (r : Row) → most_orders ≤ i → row_put m i r ≡ m
unfolding row_put
put-out m i r h = cond-false _ _ _ (le-ltb i most_orders h)

pub put-length : (m : List ℕ) (i : ℕ) (r : Row) → length (row_put m i r) ≡ length m
unfolding row_put
put-length m i r = of-cond (λ (l : List ℕ). length l ≡ length m) (ltb i most_orders) (λ e. splice-length m (rows_here.at + i * row_width) r) (λ e. refl)

module _ (m : List ℕ) (whole : length m ≡ book_width) where
  behind : (slots_here.at + slots_here.wide ≤ rows_here.at) ⊎ (rows_here.at + rows_here.wide ≤ slots_here.at)
  behind = inl (omega arith)

  ahead : (rows_here.at + rows_here.wide ≤ slots_here.at) ⊎ (slots_here.at + slots_here.wide ≤ rows_here.at)
  ahead = inr (omega arith)

  -- ---- a slot written after the last: one slot more, and the rows as they were
  module _ (count : ℕ) (s : Slot) (left : count < most_slots) (wide : length s ≡ slot_width) where
    pub slots-append : slots_in (count + 1) (appended m count s) ≡ slots_in count m ++ (s ∷ [])
    slots-append =
        ap (λ (x : List ℕ). cells slot_width (count + 1) (region_of slots_here x)) (appended-in m count s left wide)
        ∙ ap (cells slot_width (count + 1)) (region-write slots_here m (slots-room m whole) (count * slot_width) s (omega arith))
        ∙ cells-append slot_width (region_of slots_here m) count s wide (omega (arith, slots-wide m whole))

    pub rows_append : (n : ℕ) → rows_in n (appended m count s) ≡ rows_in n m
    rows_append n =
        ap (cells row_width n)
        (ap (region_of rows_here) (appended-in m count s left wide) ∙ region-apart slots_here m (slots-room m whole) rows_here (count * slot_width) s (omega arith) behind)

    pub laid-append : laid slots_here m (slots_in count m ++ (s ∷ [])) ≡ appended m count s
    laid-append =
        let e = appended-in m count s left wide in
        ap (laid slots_here m) (sym slots-append ∙ ap (slots_in (count + 1)) e)
        ∙ laid-write slots_here slot_width most_slots refl m (slots-room m whole) (count + 1) (count * slot_width) s (omega arith)
        ∙ sym e

  -- ---- a row written: it is set, or one more, and the slots are as they were
  module _ (i : ℕ) (r : Row) (wide : length r ≡ row_width) where
    pub slots-put : (n : ℕ) → slots_in n (row_put m i r) ≡ slots_in n m
    slots-put n =
        ⊎_elim
        (λ out. ap (slots_in n) (put-out m i r out))
        (λ left. ap (cells slot_width n)
        (ap (region_of slots_here) (put_in m i r left) ∙ region-apart rows_here m (rows-room m whole) slots_here (i * row_width) r (omega arith) ahead))
        (le-or-lt most_orders i)

    module _ (left : i < most_orders) where
      in_rows : region_of rows_here (row_put m i r) ≡ splice (region_of rows_here m) (i * row_width) r
      in_rows = ap (region_of rows_here) (put_in m i r left) ∙ region-write rows_here m (rows-room m whole) (i * row_width) r (omega arith)

      pub put-set : (n : ℕ) → i < n → rows_in n (row_put m i r) ≡ set (rows_in n m) i r
      put-set n h = ap (cells row_width n) in_rows ∙ cells-set row_width (region_of rows_here m) n i r h wide (omega (arith, rows-wide m whole))

      pub put-append : rows_in (i + 1) (row_put m i r) ≡ rows_in i m ++ (r ∷ [])
      put-append = ap (cells row_width (i + 1)) in_rows ∙ cells-append row_width (region_of rows_here m) i r wide (omega (arith, rows-wide m whole))

      pub laid-put : (n : ℕ) → i < n → laid rows_here m (rows_in n (row_put m i r)) ≡ row_put m i r
      laid-put n h =
          let e = put_in m i r left in
          ap (λ (x : List ℕ). laid rows_here m (rows_in n x)) e
          ∙ laid-write rows_here row_width most_orders refl m (rows-room m whole) n (i * row_width) r (omega arith)
          ∙ sym e

  -- rows that are the cells of a memory, laid over this one, leave its slots
  pub slots-laid : (n k : ℕ) (m' : List ℕ) → slots_in n (laid rows_here m (rows_in k m')) ≡ slots_in n m
  slots-laid n k m' =
      ap (cells slot_width n)
      (laid-apart rows_here row_width most_orders refl m (rows-room m whole) slots_here (rows_in k m') (cells-few rows_here row_width most_orders refl m (rows-room m whole) k m') ahead)

-- both, laid over the memory
pub holding-own : (m : List ℕ) (n k : ℕ) → holding m (slots_in n m) (rows_in k m) ≡ m
unfolding holding
holding-own m n k = ap (λ (x : List ℕ). laid rows_here x (rows_in k m)) (laid-own slots_here slot_width n m) ∙ laid-own rows_here row_width k m

pub holding-rows-alone : (m : List ℕ) (n : ℕ) (rows : List Row) → holding m (slots_in n m) rows ≡ laid rows_here m rows
unfolding holding
holding-rows-alone m n rows = ap (λ (x : List ℕ). laid rows_here x rows) (laid-own slots_here slot_width n m)

pub holding-none : (m : List ℕ) → holding m [] [] ≡ m
unfolding holding
holding-none m = splice-nil (splice m 0 []) rows_here.at ∙ splice-nil m 0

-- slots and rows that are laid over a memory are read back
module _ (m : List ℕ) (whole : length m ≡ book_width) (ss : List Slot) (rows : List Row) (sw : Wide slot_width ss) (rw' : Wide row_width rows)
    (few : length ss ≤ most_slots) (few' : length rows ≤ most_orders) where
  abbrev under : List ℕ
  under = laid slots_here m ss

  under_whole : length under ≡ book_width
  under_whole = splice-length m 0 (joined ss) ∙ whole

  pub holding-slots : slots_in (length ss) (holding m ss rows) ≡ ss
  unfolding holding
  holding-slots =
      ap (cells slot_width (length ss))
      (laid-apart rows_here row_width most_orders refl under (rows-room under under_whole) slots_here rows (omega (arith, joined_length row_width rows rw')) (ahead m whole))
      ∙ laid-read slots_here slot_width most_slots refl m (slots-room m whole) ss sw few

  pub holding-rows : rows_in (length rows) (holding m ss rows) ≡ rows
  unfolding holding
  holding-rows = laid-read rows_here row_width most_orders refl under (rows-room under under_whole) rows rw' few'

pub holding-length : (m : List ℕ) (ss : List Slot) (rows : List Row) → length (holding m ss rows) ≡ length m
unfolding holding
holding-length m ss rows = splice-length (laid slots_here m ss) rows_here.at (joined rows) ∙ splice-length m slots_here.at (joined ss)

-- the front of a region is its cells, joined, however many are counted
pub front-cells : (r : Region) (w most : ℕ) → r.wide ≡ most * w → (m : List ℕ) → r.at + r.wide ≤ length m → (n k : ℕ) → k ≡ min n most
    → part r.at (k * w) m ≡ joined (cells w n (region_of r m))
front-cells r w most cut m room n k e =
    let few : k * w ≤ most * w = mul-le-mul_right w (omega arith) in
    sym (take-take (k * w) r.wide (drop r.at m) (omega arith))
    ∙ ap (λ (j : ℕ). take (j * w) (region_of r m)) e
    ∙ cells-inside w (region_of r m) n most (region-length r m room ∙ cut)
    ∙ sym (joined-cells w n (region_of r m))

-- a row written number by number
pub row-wide : (a b c : ℕ) → length (row_of a b c) ≡ row_width
unfolding row_of
row-wide a b c =
    omega (arith, length-append (high 4 a ++ high 4 b) (high 4 c), length-append (high 4 a) (high 4 b), number-length HighFirst 4 a, number-length HighFirst 4 b, number-length HighFirst 4 c)

pub row_written : (m : List ℕ) (i a b c at : ℕ) (m₁ m₂ m₃ : List ℕ) → i < most_orders → length m ≡ book_width → at ≡ rows_here.at + i * row_width
    → m₁ ≡ splice m at (high 4 a) → m₂ ≡ splice m₁ (at + 4) (high 4 b) → m₃ ≡ splice m₂ (at + 8) (high 4 c) → m₃ ≡ row_put m i (row_of a b c)
unfolding row_of
row_written m i a b c at m₁ m₂ m₃ h whole ea e₁ e₂ e₃ =
    let la = number-length HighFirst 4 a in
    let lb = number-length HighFirst 4 b in
    let lc = number-length HighFirst 4 c in
    let lab = length-append (high 4 a) (high 4 b) in
    let f₂ : m₂ ≡ splice m at (high 4 a ++ high 4 b) = e₂ ∙ ap (λ (x : List ℕ). splice x (at + 4) (high 4 b)) e₁ ∙ splice-then m at (at + 4) (high 4 a) (high 4 b) (omega arith) (omega arith) in
    let f₃ : m₃ ≡ splice m at (high 4 a ++ high 4 b ++ high 4 c) =
    e₃ ∙ ap (λ (x : List ℕ). splice x (at + 8) (high 4 c)) f₂ ∙ splice-then m at (at + 8) (high 4 a ++ high 4 b) (high 4 c) (omega arith) (omega arith) in
    f₃ ∙ ap (λ (p : ℕ). splice m p (high 4 a ++ high 4 b ++ high 4 c)) ea ∙ sym (put_in m i (high 4 a ++ high 4 b ++ high 4 c) h)
