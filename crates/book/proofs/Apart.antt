-- Fills and entries stand apart: what is said of a fill is the same with a slot more that is no fill, and what is said of an entry with one that is no entry.
-- (The day's orders and fills: Orders' orders-still and Counts' fills-still.)
--     find-apart, last_apart, sum-apart, count-apart     a slot more that does not pass
--     exec-apart, order-apart, key_apart     no fill has the ExecID or the order of a fill, no other slot the key of an entry
--     find-exec-apart, find-order-apart, sum-order-apart, place-fill-apart, booked-apart, known-apart, first-apart, step-apart     of a fill
--     find-key-apart, place-entry-apart, entries-apart     of an entry
use mathlib.Core.Path.{◌≡◌, refl, sym, ap, ap₂, ◌∙◌}
use mathlib.Core.Logic.{⊎_elim}
use mathlib.Core.List.{List, [], ◌∷◌, ◌++◌}
use mathlib.Core.Option.{Option, none, some}
use mathlib.Core.Bool.{Bool, false, cond, not}
use Prim.Native.Nat.{ℕ, ◌+◌}
use native.Mathlib.Nat.{add-zero}
use lib.ListN.{length}
use Rattle.octet.specs.Bytes.{same}
use Rattle.octet.specs.Maybe.{find, find_last, or_else, is_none}
use Rattle.octet.proofs.Cases.{and-no-left, cond-false, or_else-none, le-or-lt, find-append, find-later, find-passes, last-append}
use Rattle.fill.specs.Slot.{Slot, is_fill, is_entry, exec_of, order_of, shares_of}
use Rattle.fill.specs.Entry.{key_of}
use Rattle.book.specs.Place.{same_exec, same_order, sum_where, by_exec, place_fill, steps}
use Rattle.book.specs.Rows.{Row, first_in, is_row_of, row_for, head_by, booked_by, first_for, booked_for, is_known}
use Rattle.book.specs.Admitting.{in_step}
use Rattle.book.specs.Entries.{same_key, by_key, place_entry}
use Rattle.book.specs.Orders.{count_where, entries_of}
use Rattle.book.proofs.Counts.{sum-append, count-end}
use Rattle.book.proofs.ByKind.{find-alike}
use Rattle.book.proofs.Finds.{order-empty}
use Rattle.book.proofs.Rowing.{numbered_more, numbered-past, numbered-end, numbered-there}

-- ---- a slot more that does not pass
module _ (p : Slot → Bool) (ss : List Slot) (s : Slot) (h : p s ≡ false) where
  pub find-apart : find p (ss ++ (s ∷ [])) ≡ find p ss
  find-apart = find-append p ss (s ∷ []) ∙ ap (or_else (find p ss)) (find-later p s [] h) ∙ or_else-none (find p ss)

  pub last_apart : find_last p (ss ++ (s ∷ [])) ≡ find_last p ss
  last_apart = last-append p ss (s ∷ []) ∙ ap (λ (o : Option Slot). or_else o (find_last p ss)) (cond-false (p s) (some s) none h)

  pub sum-apart : sum_where p (ss ++ (s ∷ [])) ≡ sum_where p ss
  unfolding sum_where
  sum-apart = sum-append p ss (s ∷ []) ∙ ap (λ (b : Bool). sum_where p ss + (cond b (shares_of s) 0 + 0)) h ∙ add-zero (sum_where p ss)

  pub count-apart : count_where p (ss ++ (s ∷ [])) ≡ count_where p ss
  count-apart = count-end p ss s ∙ cond-false (p s) (count_where p ss + 1) (count_where p ss) h

-- ---- what is no fill, as an entry, is nothing to a fill
module _ (e : Slot) (h : is_fill e ≡ false) where
  pub exec-apart : (f : Slot) → same_exec f e ≡ false
  unfolding same_exec
  exec-apart f = and-no-left (is_fill e) (same (exec_of f) (exec_of e)) h

  pub order-apart : (f : Slot) → same_order f e ≡ false
  unfolding same_order
  order-apart f = and-no-left (is_fill e) (same (order_of f) (order_of e)) h

  module _ (ss : List Slot) (f : Slot) where
    pub find-exec-apart : find_last (same_exec f) (ss ++ (e ∷ [])) ≡ find_last (same_exec f) ss
    find-exec-apart = last_apart (same_exec f) ss e (exec-apart f)

    pub find-order-apart : find (same_order f) (ss ++ (e ∷ [])) ≡ find (same_order f) ss
    find-order-apart = find-apart (same_order f) ss e (order-apart f)

    pub sum-order-apart : sum_where (same_order f) (ss ++ (e ∷ [])) ≡ sum_where (same_order f) ss
    sum-order-apart = sum-apart (same_order f) ss e (order-apart f)

    pub place-fill-apart : (known : Option Slot) → place_fill (ss ++ (e ∷ [])) known f ≡ place_fill ss known f
    unfolding place_fill
    place-fill-apart known = ap (by_exec f known) find-exec-apart

    -- no row is another's for it
    row_apart : (r : Row) → is_row_of (ss ++ (e ∷ [])) f r ≡ is_row_of ss f r
    row_apart r =
        ⊎_elim
        (λ h. ap (same_order f) (numbered_more (first_in r) ss e h))
        (λ h. ⊎_elim
        (λ here. ap (same_order f) here ∙ order-apart f ∙ sym (ap (same_order f) (numbered-past (first_in r) ss h) ∙ order-empty f))
        (λ none-there. ap (same_order f) (none-there ∙ sym (numbered-past (first_in r) ss h)))
        (numbered-end (first_in r) ss e h))
        (le-or-lt (first_in r) (length ss))

    module _ (rows : List Row) where
      rows_apart : row_for (ss ++ (e ∷ [])) rows f ≡ row_for ss rows f
      unfolding row_for
      rows_apart = find-alike (is_row_of (ss ++ (e ∷ [])) f) (is_row_of ss f) row_apart rows

      pub booked-apart : booked_for (ss ++ (e ∷ [])) rows f ≡ booked_for ss rows f
      unfolding booked_for
      booked-apart = ap booked_by rows_apart

      pub known-apart : is_known (ss ++ (e ∷ [])) rows f ≡ is_known ss rows f
      unfolding is_known
      known-apart = ap (λ (o : Option Row). not (is_none o)) rows_apart

      pub first-apart : first_for (ss ++ (e ∷ [])) rows f ≡ first_for ss rows f
      unfolding first_for row_for
      first-apart = by (find (is_row_of ss f) rows) refl
        where
          by : (o : Option Row) → find (is_row_of ss f) rows ≡ o → head_by (ss ++ (e ∷ [])) (find (is_row_of (ss ++ (e ∷ [])) f) rows) ≡ head_by ss (find (is_row_of ss f) rows)
          by none g = ap (head_by (ss ++ (e ∷ []))) (rows_apart ∙ g) ∙ sym (ap (head_by ss) g)
          by (some r) g =
              ap (head_by (ss ++ (e ∷ []))) (rows_apart ∙ g)
              ∙ ap some (numbered_more (first_in r) ss e (numbered-there f (first_in r) ss (find-passes (is_row_of ss f) rows r g)))
              ∙ sym (ap (head_by ss) g)

      pub step-apart : in_step (ss ++ (e ∷ [])) rows f ≡ in_step ss rows f
      unfolding in_step
      step-apart = ap₂ (λ (o : Option Slot) (n : ℕ). steps o n f) first-apart booked-apart

-- ---- what is no entry, as a fill, is nothing to an entry
module _ (f : Slot) (h : is_entry f ≡ false) where
  pub key_apart : (e : Slot) → same_key e f ≡ false
  unfolding same_key
  key_apart e = and-no-left (is_entry f) (same (key_of e) (key_of f)) h

  module _ (ss : List Slot) where
    pub find-key-apart : (e : Slot) → find (same_key e) (ss ++ (f ∷ [])) ≡ find (same_key e) ss
    find-key-apart e = find-apart (same_key e) ss f (key_apart e)

    pub place-entry-apart : (e : Slot) → place_entry (ss ++ (f ∷ [])) e ≡ place_entry ss e
    unfolding place_entry
    place-entry-apart e = ap (by_key e) (find-key-apart e)

    pub entries-apart : entries_of (ss ++ (f ∷ [])) ≡ entries_of ss
    entries-apart = count-apart is_entry ss f h
