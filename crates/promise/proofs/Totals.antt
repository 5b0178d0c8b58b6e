-- The stored sums are those of the fills that wait, in every world, and with the contracts acknowledged they are the total of demand 3; and the page shows them.
--     totals     the theorem of every world
--     page-held, page-cited     of the page, and that its function's own contract says so
use Prim.Native.Nat.{ℕ, zero, suc, ◌+◌, ◌≤◌, ◌<◌}
use mathlib.Core.Path.{◌≡◌, refl, sym, ap, ap₂, ◌∙◌, subst}
use mathlib.Core.List.{List, [], ◌∷◌, ◌++◌, map, map-map}
use mathlib.Core.Option.{none, some}
use mathlib.Core.Bool.{true, false}
use mathlib.Core.Logic.{⊎_elim}
use native.Mathlib.Omega.{arith}
use lib.ListN.{length, drop, get_or, replicate}
use Rattle.octet.specs.Bytes.{same, sum_of}
use Rattle.octet.specs.Splice.{splice}
use Rattle.octet.specs.Maybe.{find}
use Rattle.octet.proofs.Cases.{bool_case, and_both, cond-true, cond-false, or_left, or_right, find-passes}
use Rattle.octet.proofs.Lists.{same_true, same_refl}
use Rattle.fill.specs.Slot.{Slot, is_fill, order_of}
use Rattle.book.specs.Place.{same_order, sum_where, most_orders}
use Rattle.book.specs.Rows.{Row, waits_in, head_of, row_for}
use Rattle.book.specs.Memory.{slots_in, rows_in}
use Rattle.book.specs.Orders.{orders_of, is_among, of_order, row_is, rows_of, day_of}
use Rattle.book.specs.declared.Load.{Load}
use Rattle.book.proofs.Stored.{Fits, orders-once, map-alike, first-there, head-row, booked-row, waits-row, row-stored, none_before, sum-none, sum-split, all-taken, day-taken, day-is-sum, rows-count}
use Rattle.note.specs.Kept.{Kept, empty, waiting}
use Rattle.note.proofs.Keeping.{Sound, fits_in, sums-few, fills-all, rows-many}
use Rattle.queue.specs.declared.Marks.{Marks}
use Rattle.page.specs.Page.{Paged, shows as shows-page, Pages, row_as, shown_of, page_of}
use Rattle.page.specs.declared.OrderRow.{OrderRow}
use Rattle.page.proofs.Showing.{told-few, told-all, due-few, due_all, page-rows, none_written}
use Rattle.page.specs.contracts.page as page
use Rattle.octet.proofs.Once.{by}
use Rattle.receiver.specs.State.{State, seen}
use Rattle.promise.specs.World.{World, Step, Cut, step, world, survivors, left, today, acknowledged}
use Rattle.promise.specs.Held.{Holding, Comes}
use Rattle.promise.specs.Totals.{waits_by, waits_for, RowIs, Totals, order_row, Page}
use Rattle.promise.proofs.Good.{Good, good, good-step, safe-live, whole-now, cut-past}
use Rattle.promise.proofs.Surviving.{demand3}
use Rattle.promise.proofs.Held.{held}
use Rattle.promise.proofs.Cited.{Cites}

-- ---- the i-th of a list of OrderIDs
nth-map : (f : List ℕ → Row) (ids : List (List ℕ)) (i : ℕ) → i < length ids → get_or (map f ids) i [] ≡ f (get_or ids i [])
nth-map f [] i h = absurd (omega arith)
nth-map f (id ∷ ids) zero h = refl
nth-map f (id ∷ ids) (suc i) h = nth-map f ids i (omega arith)

nth-among : (ids : List (List ℕ)) (i : ℕ) → i < length ids → is_among (get_or ids i []) ids ≡ true
nth-among [] i h = absurd (omega arith)
nth-among (id ∷ ids) zero h = or_left (same id id) (is_among id ids) (same_refl id)
nth-among (id ∷ ids) (suc i) h = or_right (same (get_or ids i []) id) (is_among (get_or ids i []) ids) (nth-among ids i (omega arith))

-- ---- what is kept
module _ (q : Kept) (h : Sound q) where
  abbrev ss : List Slot
  ss = q.slots

  fit : Fits ss
  fit = fits_in q h

  -- the first fill of an order of the day has its OrderID
  head-there : (id : List ℕ) → is_among id (orders_of ss) ≡ true → find (of_order id) ss ≡ some (head_of ss (row_is ss q.acked id))
  head-there id a = first-there ss id a ∙ ap some (sym (head-row ss q.acked fit id))

  head-order : (id : List ℕ) → is_among id (orders_of ss) ≡ true → order_of (head_of ss (row_is ss q.acked id)) ≡ id
  head-order id a =
      let s = head_of ss (row_is ss q.acked id) in
      sym (same_true id (order_of s) (and_both (is_fill s) (same id (order_of s)) (find-passes (of_order id) ss s (head-there id a))).1)

  row_is_lem : (i : ℕ) → i < length (orders_of ss) → RowIs q (get_or (orders_of ss) i []) (get_or q.rows i [])
  row_is_lem i l =
      let id = get_or (orders_of ss) i [] in
      let e : get_or q.rows i [] ≡ row_is ss q.acked id = ap (λ (x : List Row). get_or x i []) h.rows_all ∙ nth-map (row_is ss q.acked) (orders_of ss) i l in
      subst (RowIs q id) (sym e)
      (record { head = head-there id (nth-among (orders_of ss) i l); booked = booked-row ss q.acked fit id; waits = waits-row ss q.acked fit id })

  -- the stored sum of an order
  waits-none : (f : Slot) → is_among (order_of f) (orders_of ss) ≡ false → sum_where (of_order (order_of f)) (drop q.acked ss) ≡ 0
  waits-none f a = let whole = sum-none (of_order (order_of f)) ss (none_before ss (order_of f) a) in omega (arith, sum-split (of_order (order_of f)) q.acked ss)

  waits-are : (f : Slot) → waits_for q f ≡ sum_where (same_order f) (waiting q)
  unfolding same_order
  waits-are f =
      ap (λ (x : List Row). waits_by (row_for ss x f)) h.rows_all
      ∙ ap waits_by (row-stored ss q.acked fit f)
      ∙ ⊎_elim
      (λ a. ap waits_by (cond-true (is_among (order_of f) (orders_of ss)) (some (row_is ss q.acked (order_of f))) none a) ∙ waits-row ss q.acked fit (order_of f))
      (λ a. ap waits_by (cond-false (is_among (order_of f) (orders_of ss)) (some (row_is ss q.acked (order_of f))) none a) ∙ sym (waits-none f a))
      (bool_case (is_among (order_of f) (orders_of ss)))

  -- all acknowledged
  nothing-waits : q.acked ≡ length ss → (map waits_in q.rows ≡ replicate (length q.rows) 0) × (q.day ≡ 0)
  nothing-waits e =
      let many = ap length h.rows_all ∙ rows-count ss q.acked in (
        ap (map waits_in) (h.rows_all ∙ ap (rows_of ss) e) ∙ all-taken ss fit ∙ ap (λ (n : ℕ). replicate n 0) (sym many),
        h.day-all ∙ ap (day_of ss) e ∙ day-taken ss,
      )

  -- the page's rows, from those of the book
  rows-shown : map (row_as ss) q.rows ≡ map (order_row q) (orders_of ss)
  rows-shown =
      ap (map (row_as ss)) h.rows_all
      ∙ map-map (row_as ss) (row_is ss q.acked) (orders_of ss)
      ∙ map-alike (λ (id : List ℕ). row_as ss (row_is ss q.acked id)) (order_row q) (orders_of ss)
      (λ id a. row_as_lem (head-order id a) (waits-row ss q.acked fit id))
    where
      row_as_lem : {x y : List ℕ} {n k : ℕ} → x ≡ y → n ≡ k
          → ◌≡◌ {A = OrderRow} (record { id = splice (replicate 31 0) 0 x; waiting = n }) (record { id = splice (replicate 31 0) 0 y; waiting = k })
      row_as_lem ex en = λ i. record { id = splice (replicate 31 0) 0 (ex i); waiting = en i }

-- ---- every world
pub totals : (ss : List Step) → Totals (world ss)
totals ss =
    let w : World = world ss in
    let g : Good w = good ss in
    let q : Kept = w.live.kept in
    let h : Sound q = (safe-live w g).sound in
    let after : (k : ℕ) → (step w (Cut k)).live.kept ≡ left empty (w.past ++ survivors k w.history) =
    λ k. whole-now (step w (Cut k)) (good-step w (Cut k) g) ∙ ap (left empty) (cut-past w k) in
    record {
      rows = h.rows_all;
      many = ap length h.rows_all ∙ rows-count q.slots q.acked;
      once = orders-once q.slots;
      each = row_is_lem q h;
      day = h.day-all;
      sum = h.day-all ∙ day-is-sum q.slots q.acked (fits_in q h) ∙ ap (λ (x : List Row). sum_of (map waits_in x)) (sym h.rows_all);
      most = omega (arith, sums-few q.slots h.proper, fills-all q h, h.fills-few);
      order = λ f. ap (λ (n : ℕ). sum_where (same_order f) (acknowledged (today w)) + n) (waits-are q h f) ∙ (demand3 ss).total (same_order f);
      total = ap (λ (n : ℕ). sum_where is_fill (acknowledged (today w)) + n) h.day-all ∙ (demand3 ss).total is_fill;
      done = nothing-waits q h;
      cut = λ k. (ap (λ (x : Kept). x.rows) (after k), ap (λ (x : Kept). x.day) (after k));
    }

-- ---- the page of what a caller holds

-- the struct and the book, as the page reads them
pub record Read (q : Kept) (m : Marks) (book : List ℕ) : Type 0 where
  pub slots : slots_in m.last book ≡ q.slots
  pub rows : rows_in m.load.orders book ≡ q.rows
  pub load : m.load ≡ q.load
  pub day : m.day ≡ q.day

reads : (h : Holding) (st : State) → seen h.struct h.book ≡ st → Read st.kept h.struct.marks h.book
unfolding seen
reads h st e = record {
  slots = ap (λ (x : State). x.kept.slots) e;
  rows = ap (λ (x : State). x.kept.rows) e;
  load = ap (λ (x : State). x.kept.load) e;
  day = ap (λ (x : State). x.kept.day) e;
}

shows : (q : Kept) → Sound q → (m : Marks) (book : List ℕ) → Read q m book → (rows rows' : List OrderRow) (r : Paged) → Pages m book rows r rows' → Page q rows r rows'
shows q h m book x rows rows' r p =
    let lent : ℕ = length rows in
    let orders : m.load.orders ≡ length (orders_of q.slots) = ap (λ (l : Load). l.orders) x.load ∙ sym (rows-many q h) ∙ ap length h.rows_all ∙ rows-count q.slots q.acked in
    let few : m.load.orders ≤ most_orders = omega (arith, ap (λ (l : Load). l.orders) x.load, h.orders-few) in
    let all : shown_of m ≡ length (orders_of q.slots) = omega arith in
    let same_rows : page_of m book m.load.orders ≡ map (order_row q) (orders_of q.slots) =
    page-rows m book ∙ ap₂ (λ (s : List Slot) (y : List Row). map (row_as s) y) x.slots x.rows ∙ rows-shown q h in
    record {
      refused = λ l. (
        p.0 ∙ told-few m lent l,
        p.1 ∙ ap (λ (n : ℕ). page_of m book n ++ drop n rows) (due-few m lent l) ∙ none_written m book rows,
      );
      shown = λ l. (
        p.0 ∙ told-all m lent l ∙ ap₂ shows-page all (x.day ∙ h.day-all),
        p.1
            ∙ ap (λ (n : ℕ). page_of m book n ++ drop n rows) (due_all m lent l)
            ∙ ap (λ (n : ℕ). page_of m book n ++ drop n rows) (all ∙ sym orders)
            ∙ ap₂ (λ (y : List OrderRow) (n : ℕ). y ++ drop n rows) same_rows orders,
      );
    }

pub page-held : (ss : List Step) (h : Holding) → Comes ss h → (rows rows' : List OrderRow) (r : Paged) → Pages h.struct.marks h.book rows r rows'
    → Page (world ss).live.kept rows r rows'
page-held ss h x rows rows' r p =
    shows (world ss).live.kept (safe-live (world ss) (good ss)).sound h.struct.marks h.book (reads h (world ss).live (held x).state) rows rows' r p

-- the function's own contract says so: it is lent the book to read and hands back no state, so that it changes nothing but the rows
pub page-cited : Cites page.ended (λ M 𝓤. page.clauses) (λ κs a r e. Pages a.0 a.1.0.now a.1.1.0.now r e.1.1.0.now)
page-cited M 𝓤 𝓛 mem run κs a g r e = by 𝓤 (λ p. p)
