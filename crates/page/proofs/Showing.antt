-- What a page answers and how many rows it writes, where few rows are lent, and where enough are; and its rows as the book has them.
use mathlib.Core.Path.{◌≡◌, refl, sym, ap, ◌∙◌}
use mathlib.Core.List.{List, [], ◌∷◌, ◌++◌, map}
use Prim.Native.Nat.{ℕ, zero, suc, ◌+◌, ◌≤◌, ◌<◌}
use lib.ListN.{length, drop, get_or}
use lib.Seq.{drop-cons}
use lib.ListN.{drop_of_length-le}
use native.Mathlib.Omega.{arith}
use borrow.Author.Tests.{lt-ltb, le-ltb}
use mathlib.Core.Logic.{inl, inr}
use Rattle.octet.proofs.Cases.{le-or-lt}
use Rattle.answer.specs.declared.Refusal.{Refusal}
use Rattle.book.specs.Place.{most_orders}
use Rattle.book.specs.Rows.{Row}
use Rattle.book.specs.Memory.{slots_in, rows_in}
use Rattle.book.proofs.Regions.{rows-length}
use Rattle.queue.specs.declared.Marks.{Marks}
use Rattle.answer.specs.declared.Refusal.TheVariants as refusal
use Rattle.page.specs.Page.{Paged, shows, shown_of, told_of, due_of, row_as, row_of, rows_from, page_of}
use Rattle.page.specs.declared.OrderRow.{OrderRow}
use Rattle.page.specs.declared.Shown.{Shown}
use Rattle.std.specs.Prelude.{Ok, Err}

pub told-few : (m : Marks) (lent : ℕ) → lent < most_orders → told_of m lent ≡ Err refusal.ShortBuffer
unfolding told_of
told-few m lent h = simp (lt-ltb lent most_orders h)

pub told-all : (m : Marks) (lent : ℕ) → most_orders ≤ lent → told_of m lent ≡ shows (shown_of m) m.day
unfolding told_of
told-all m lent h = simp (le-ltb lent most_orders h)

pub due-few : (m : Marks) (lent : ℕ) → lent < most_orders → due_of m lent ≡ 0
unfolding due_of
due-few m lent h = simp (lt-ltb lent most_orders h)

pub due_all : (m : Marks) (lent : ℕ) → most_orders ≤ lent → due_of m lent ≡ shown_of m
unfolding due_of
due_all m lent h = simp (le-ltb lent most_orders h)

-- no page shows more orders
orders_in : Paged → ℕ
orders_in (Ok s) = s.orders
orders_in (Err why) = 0

pub shown-most : (m : Marks) (lent n day : ℕ) → most_orders ≤ lent → shows n day ≡ told_of m lent → n ≤ most_orders
unfolding orders_in
shown-most m lent n day h e =
    let k = ap orders_in (e ∙ told-all m lent h) in
    omega arith

-- a page that is shown had enough rows, and one that is refused had few
pub told-shown : (m : Marks) (lent : ℕ) (s : Shown) → Ok s ≡ told_of m lent → (most_orders ≤ lent) × (s.orders ≡ due_of m lent) × (s.orders ≤ most_orders)
unfolding orders_in
told-shown m lent s e =
    elim (le-or-lt most_orders lent) [
      | inl h ↦ (let k = ap orders_in (e ∙ told-all m lent h) in (h, k ∙ sym (due_all m lent h), omega arith))
      | inr h ↦ (let f = e ∙ told-few m lent h in absurd cc)
    ]

pub told-refused : (m : Marks) (lent : ℕ) (why : Refusal) → Err why ≡ told_of m lent → due_of m lent ≡ 0
told-refused m lent why e =
    elim (le-or-lt most_orders lent) [
      | inl h ↦ (let f = e ∙ told-all m lent h in absurd cc)
      | inr h ↦ due-few m lent h
    ]

-- ---- the rows

-- as many as there are orders: each of the book's rows, as the page has it
module _ (m : Marks) (book : List ℕ) where
  abbrev stored : List Row
  stored = rows_in m.load.orders book

  rows-from : (k i : ℕ) → i + k ≡ length stored → rows_from m book i k ≡ map (row_as (slots_in m.last book)) (drop i stored)
  unfolding rows_from row_of
  rows-from zero i e = ap (map (row_as (slots_in m.last book))) (sym (drop_of_length-le stored (omega arith)))
  rows-from (suc k) i e =
      ap (λ (l : List OrderRow). row_as (slots_in m.last book) (get_or stored i []) ∷ l) (rows-from k (suc i) (omega arith))
      ∙ ap (map (row_as (slots_in m.last book))) (sym (drop-cons stored i [] (omega arith)))

  pub page-rows : page_of m book m.load.orders ≡ map (row_as (slots_in m.last book)) stored
  page-rows = rows-from m.load.orders 0 (omega (arith, rows-length m.load.orders book))

  -- none is written
  pub none_written : (rows : List OrderRow) → page_of m book 0 ++ drop 0 rows ≡ rows
  unfolding rows_from
  none_written rows = refl
