-- What entries change in a listing: nothing where there are none, and nothing in the first line.
--     no-entries     of slots that are all fills: the first line counts them all, and their lines are those of fills
--     no-entries-listed     the same of a file of notes whose count of entries is 0
--     first-of-fills     the first line is that of the fills alone
use Prim.Native.Nat.{ℕ, zero, suc, ◌+◌, ◌≤◌}
use mathlib.Core.Path.{◌≡◌, refl, sym, ap, ap₂, ◌∙◌, subst}
use mathlib.Core.Logic.{⊎_elim}
use mathlib.Core.List.{List, [], ◌∷◌, ◌++◌}
use mathlib.Core.Bool.{true, cond}
use native.Mathlib.Omega.{arith}
use lib.ListN.{length, drop}
use Rattle.octet.proofs.Cases.{of-cond, cond-true, cond-false}
use Rattle.fill.specs.Slot.{Slot, is_fill, is_entry, shares_of, fill_line}
use Rattle.fill.proofs.Lawful.{no-entry}
use Rattle.fill.proofs.Lines.{line-fill}
use Rattle.book.specs.Place.{sum_where}
use Rattle.book.specs.Orders.{count_where, fills_of, entries_of}
use Rattle.note.specs.Kept.{Kept, waiting}
use Rattle.note.proofs.Keeping.{AllSlots, entries-all}
use Rattle.restart.specs.Restart.{Again, restart}
use Rattle.restart.proofs.Going.{GivenIn, restart-given}
use Rattle.listing.specs.Listing.{contracts, lines_from, first_of, first_line, waiting_page, longest_file, listing}
use Rattle.listing.proofs.Pages.{listing-counts}

abbrev pub AllFills : List Slot → Type 0
AllFills [] = Unit
AllFills (s ∷ ss) = (is_fill s ≡ true) × AllFills ss

-- a fill's line for each, the first numbered n
unfoldable pub fill_lines_from : ℕ → List Slot → List ℕ
fill_lines_from n [] = []
fill_lines_from n (s ∷ ss) = fill_line n s ++ fill_lines_from (n + 1) ss

-- ---- no entries
fills-drop : (k : ℕ) (ss : List Slot) → AllFills ss → AllFills (drop k ss)
fills-drop zero ss h = h
fills-drop (suc k) [] h = tt
fills-drop (suc k) (s ∷ ss) h = fills-drop k ss h.1

all-counted : (ss : List Slot) → AllFills ss → fills_of ss ≡ length ss
unfolding count_where
all-counted [] h = refl
all-counted (s ∷ ss) h = omega (arith, cond-true {A = ℕ} (is_fill s) 1 0 h.0, all-counted ss h.1)

lines-of-fills : (n : ℕ) (ss : List Slot) → AllFills ss → lines_from n ss ≡ fill_lines_from n ss
unfolding lines_from fill_lines_from
lines-of-fills n [] h = refl
lines-of-fills n (s ∷ ss) h = ap₂ (λ (x y : List ℕ). x ++ y) (line-fill n s (no-entry s h.0)) (lines-of-fills (n + 1) ss h.1)

pub no-entries : (acked : ℕ) (ss : List Slot) → AllFills ss
    → waiting_page acked ss ≡ first_of (length (drop acked ss)) (contracts (drop acked ss)) ++ fill_lines_from (acked + 1) (drop acked ss)
no-entries acked ss h =
    let ws = drop acked ss in
    let w = fills-drop acked ss h in
    ap₂ (λ (n : ℕ) (x : List ℕ). first_of n (contracts ws) ++ x) (all-counted ws w) (lines-of-fills (acked + 1) ws w)

-- where no entry is counted, each slot is a fill
all-fills : (ss : List Slot) → AllSlots ss → entries_of ss ≡ 0 → AllFills ss
unfolding count_where
all-fills [] h e = tt
all-fills (s ∷ ss) h e =
    (⊎_elim (λ f. f) (λ y. absurd (omega (arith, cond-true {A = ℕ} (is_entry s) 1 0 y))) h.0.marked, all-fills ss h.1 (omega arith))

pub no-entries-listed : (notes : List ℕ) (q : Kept) (whole : ℕ) → length notes ≤ longest_file → restart notes ≡ Again q whole → q.load.entries ≡ 0
    → listing notes ≡ first_of (length (waiting q)) (contracts (waiting q)) ++ fill_lines_from (q.acked + 1) (waiting q)
no-entries-listed notes q whole h e z =
    let g = (subst (GivenIn (length notes)) e (restart-given notes)).sound in
    listing-counts notes q whole h e ∙ no-entries q.acked q.slots (all-fills q.slots g.each (sym (entries-all q g) ∙ z))

-- ---- the first line
-- the slots that are fills, in order
unfoldable pub only_fills : List Slot → List Slot
only_fills [] = []
only_fills (s ∷ ss) = cond (is_fill s) (s ∷ only_fills ss) (only_fills ss)

only-all : (ss : List Slot) → AllFills (only_fills ss)
unfolding only_fills
only-all [] = tt
only-all (s ∷ ss) = of-cond AllFills (is_fill s) (λ e. (e, only-all ss)) (λ e. only-all ss)

only-count : (ss : List Slot) → fills_of (only_fills ss) ≡ fills_of ss
unfolding only_fills count_where
only-count [] = refl
only-count (s ∷ ss) =
    of-cond (λ (l : List Slot). fills_of l ≡ cond (is_fill s) 1 0 + fills_of ss) (is_fill s)
    (λ e. ap (λ (n : ℕ). cond (is_fill s) 1 0 + n) (only-count ss))
    (λ e. omega (arith, cond-false {A = ℕ} (is_fill s) 1 0 e, only-count ss))

only_sum : (ss : List Slot) → contracts (only_fills ss) ≡ contracts ss
unfolding only_fills sum_where
only_sum [] = refl
only_sum (s ∷ ss) =
    of-cond (λ (l : List Slot). contracts l ≡ cond (is_fill s) (shares_of s) 0 + contracts ss) (is_fill s)
    (λ e. ap (λ (n : ℕ). cond (is_fill s) (shares_of s) 0 + n) (only_sum ss))
    (λ e. omega (arith, cond-false (is_fill s) (shares_of s) 0 e, only_sum ss))

pub first-of-fills : (ss : List Slot) → first_line ss ≡ first_line (only_fills ss)
first-of-fills ss = sym (ap₂ first_of (only-count ss) (only_sum ss))

-- so it says how many these are
pub first-counts : (ss : List Slot) → first_line ss ≡ first_of (length (only_fills ss)) (contracts (only_fills ss))
first-counts ss = first-of-fills ss ∙ ap (λ (n : ℕ). first_of n (contracts (only_fills ss))) (all-counted (only_fills ss) (only-all ss))
