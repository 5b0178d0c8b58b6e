-- Laws of the listing: no listing has more than 65,536 bytes; its first line counts the waiting fills and their contracts; and the loops that count
-- the fills, sum the contracts and write the lines.
use Prim.Native.Nat.{ℕ, zero, suc, ◌+◌, ◌-◌, ◌*◌, ◌≤◌, ◌<◌, ◌^◌, min}
use mathlib.Core.Path.{◌≡◌, refl, sym, ap, ap₂, ◌∙◌, subst}
use mathlib.Core.List.{List, [], ◌∷◌, ◌++◌}
use mathlib.Core.Logic.{⊎_elim}
use mathlib.Core.Bool.{true, false, cond, ◌&&◌}
use native.Mathlib.Nat.{sub_self}
use native.Mathlib.Omega.{arith}
use lib.ListN.{length, take, drop, length-append, length-take, length-drop}
use lib.Seq.{take-add, drop-drop, take_all, take-append_seam, drop-append_seam}
use lib.Dec.{leb}
use borrow.Author.Tests.{leb-true, ltb-false, lt-ltb, le-ltb}
use Rattle.octet.specs.Bytes.{between}
use Rattle.octet.specs.Splice.{splice, fits_at}
use Rattle.octet.proofs.Cases.{bool_case, of-cond, cond-true, cond-false, le-or-lt, and_both, and_left, and_right}
use Rattle.octet.proofs.Lists.{between-high, splice-join, splice-then, splice-nil, splice-read, splice-length, fits-true}
use Rattle.text.proofs.Decimals.{decimal-length}
use Rattle.value.specs.Value.{is_time}
use Rattle.fill.specs.Slot.{
  Slot,
  is_fill,
  is_entry,
  side_of,
  shares_of,
  price_of,
  time_of,
  texts_lawful,
  sums_lawful,
  most_price,
  fill_lawful,
  fill_line,
}
use Rattle.fill.specs.Entry.{
  number_of,
  entry_side_of,
  transaction_of,
  correction_of,
  entry_shares_of,
  entry_price_of,
  entry_time_of,
  names_lawful,
  codes_lawful,
  entry_lawful,
  entry_line,
}
use Rattle.fill.specs.Booked.{IsSlot, slot_lawful, line_of}
use Rattle.answer.specs.Numbers.{nine_digits, most_contracts, largest}
use Rattle.fill.proofs.Lawful.{lawful-sums, lawful-fill, lawful-entry, no-entry}
use Rattle.fill.proofs.Lines.{fill-digits, entry-digits, line-fill, line-entry}
use Rattle.book.specs.Memory.{most_slots, slots_in, slot_at}
use Rattle.book.specs.Place.{most_fills, sum_where}
use Rattle.book.specs.Entries.{most_entries}
use Rattle.book.specs.Orders.{fills_of, count_where, entries_of}
use Rattle.book.proofs.Regions.{slots_length, slots-step, slots_end}
use Rattle.book.proofs.Counts.{count_most, count-split}
use Rattle.note.specs.Kept.{Kept, waiting}
use Rattle.note.proofs.Keeping.{AllSlots, AllLawful, fills-all, entries-all}
use Rattle.restart.specs.Restart.{Outcome, Again, Unlawful, restart, counts_of, told, book_after, HasDay}
use Rattle.restart.specs.declared.Counts.{Counts}
use Rattle.restart.specs.declared.Restarted.{Restarted}
use Rattle.std.specs.Prelude.{Result, Ok, Err}
use Rattle.text.specs.declared.Text.{Text}
use Rattle.text.specs.Writing.{empty, puts, held}
use Rattle.text.proofs.Puts.{held-short}
use Rattle.restart.proofs.Going.{GivenIn, restart-given}
use Rattle.listing.specs.Listing.{contracts, lines_from, first_of, first_line, damaged, waiting_page, printed, longest_file, is_too_long, too_long, listing, book_listed, said_by, said_of, day_by, day_of, lines_in}

-- ---- how long a line is: that of a lawful fill has at most 99 bytes, that of a lawful entry at most 41
fill-figures : (s : Slot) → fill_lawful s ≡ true → (side_of s ≤ 2) × (price_of s ≤ most_price)
unfolding fill_lawful
fill-figures s t =
    let a = and_left (texts_lawful s && between 1 2 (side_of s) && sums_lawful s && leb (price_of s) most_price) (is_time (time_of s)) t in
    let b = and_both (texts_lawful s && between 1 2 (side_of s) && sums_lawful s) (leb (price_of s) most_price) a in
    let d = and_left (texts_lawful s && between 1 2 (side_of s)) (sums_lawful s) b.0 in
    (between-high 1 2 (side_of s) (and_right (texts_lawful s) (between 1 2 (side_of s)) d), leb-true (price_of s) most_price b.1)

pub lawful-shares : (s : Slot) → fill_lawful s ≡ true → shares_of s ≤ most_contracts
lawful-shares s t =
    let f = lawful-sums s t in
    let a = f.cum in
    let b = f.quantity in
    let d = f.most in
    omega arith

pub fill-line-most : (n : ℕ) (s : Slot) → n < 1000 → fill_lawful s ≡ true → length (fill_line n s) ≤ 99
fill-line-most n s hn t =
    let z = fill-figures s t in
    let shares = lawful-shares s t in
    let side = z.0 in
    let price = z.1 in
    fill-digits 2 0 5 6 n s (omega arith) (omega arith) (omega arith) (omega arith)

entry-codes : (s : Slot) → entry_lawful s ≡ true → (number_of s ≤ nine_digits) × (entry_side_of s ≤ 2) × (transaction_of s ≤ 2)
unfolding entry_lawful
entry-codes s t =
    let shares = between 1 most_contracts (entry_shares_of s) in
    let price = leb (entry_price_of s) most_price in
    let number = leb (number_of s) nine_digits in
    let side = between 1 2 (entry_side_of s) in
    let transaction = leb (transaction_of s) 2 in
    let a = and_left (names_lawful s && codes_lawful s && shares && price) (is_time (entry_time_of s)) t in
    let b = and_left (names_lawful s && codes_lawful s) shares (and_left (names_lawful s && codes_lawful s && shares) price a) in
    let d = and_left (number && side && transaction) (between 1 5 (correction_of s)) (and_right (names_lawful s) (codes_lawful s) b) in
    let e = and_both (number && side) transaction d in
    let f = and_both number side e.0 in
    (leb-true (number_of s) nine_digits f.0, between-high 1 2 (entry_side_of s) f.1, leb-true (transaction_of s) 2 e.1)

pub entry-line-most : (n : ℕ) (s : Slot) → n < 1000 → entry_lawful s ≡ true → length (entry_line n s) ≤ 41
entry-line-most n s hn t =
    let z = entry-codes s t in
    let number = z.0 in
    let side = z.1 in
    let transaction = z.2 in
    entry-digits 2 8 0 0 n s (omega arith) (omega arith) (omega arith) (omega arith)

-- by its first byte
line-of-entry : (n : ℕ) (s : Slot) → n < 1000 → slot_lawful s ≡ true → is_entry s ≡ true → length (line_of n s) ≤ 41
line-of-entry n s h t e = omega (arith, ap length (line-entry n s e), entry-line-most n s h (sym (lawful-entry s e) ∙ t))

line-of-fill : (n : ℕ) (s : Slot) → n < 1000 → slot_lawful s ≡ true → is_entry s ≡ false → length (line_of n s) ≤ 99
line-of-fill n s h t e = omega (arith, ap length (line-fill n s e), fill-line-most n s h (sym (lawful-fill s e) ∙ t))

pub line-most : (n : ℕ) (s : Slot) → n < 1000 → slot_lawful s ≡ true → length (line_of n s) ≤ 99
line-most n s h t =
    ⊎_elim (λ e. omega (arith, line-of-entry n s h t e)) (λ e. line-of-fill n s h t e) (bool_case (is_entry s))

line-by-kind : (n : ℕ) (s : Slot) → n < 1000 → IsSlot s → slot_lawful s ≡ true → length (line_of n s) ≤ 99 * cond (is_fill s) 1 0 + 41 * cond (is_entry s) 1 0
line-by-kind n s h i t =
    ⊎_elim
    (λ f. omega (arith, cond-true {A = ℕ} (is_fill s) 1 0 f, line-of-fill n s h t (no-entry s f)))
    (λ e. omega (arith, cond-true {A = ℕ} (is_entry s) 1 0 e, line-of-entry n s h t e))
    i.marked

lines-most : (ss : List Slot) (n : ℕ) → n + length ss ≤ 1000 → AllSlots ss → AllLawful ss → length (lines_from n ss) ≤ 99 * count_where is_fill ss + 41 * entries_of ss
unfolding lines_from count_where
lines-most [] n h i w = omega arith
lines-most (s ∷ ss) n h i w =
    let a = line-by-kind n s (omega arith) i.0 w.0 in
    let b = lines-most ss (n + 1) (omega arith) i.1 w.1 in
    omega (arith, length-append (line_of n s) (lines_from (n + 1) ss))

sum-most : (ss : List Slot) → AllLawful ss → contracts ss ≤ most_contracts * length ss
unfolding sum_where
sum-most [] w = omega arith
sum-most (s ∷ ss) w =
    let a : cond (is_fill s) (shares_of s) 0 ≤ most_contracts =
    of-cond (λ (n : ℕ). n ≤ most_contracts) (is_fill s) (λ e. lawful-shares s (sym (lawful-fill s (no-entry s e)) ∙ w.0)) (λ e. omega arith) in
    omega (arith, sum-most ss w.1)

pub first-most : (n sum : ℕ) → n < 10 ^ 20 → sum < 10 ^ 20 → length (first_of n sum) ≤ 60
unfolding first_of
first-most n sum hn hs =
    let a = decimal-length 19 n hn in
    let b = decimal-length 19 sum hs in
    simp length-append (omega arith)

pub damaged-most : (at : ℕ) → at < 10 ^ 20 → length (damaged at) ≤ 32
unfolding damaged
damaged-most at h = let a = decimal-length 19 at h in simp length-append (omega arith)

all_drop : (k : ℕ) (ss : List Slot) → AllSlots ss → AllLawful ss → AllSlots (drop k ss) × AllLawful (drop k ss)
all_drop zero ss i w = (i, w)
all_drop (suc k) [] i w = (tt, tt)
all_drop (suc k) (s ∷ ss) i w = all_drop k ss i.1 w.1

-- at most 512 lines of fills, 256 of entries, and the first
printed-most : (most : ℕ) (o : Outcome) → most ≤ longest_file → GivenIn most o → length (printed o) ≤ longest_file
printed-most most (Unlawful at) h g = omega (arith, damaged-most at (omega arith))
printed-most most (Again q whole) h g =
    let ss = q.slots in
    let ws = waiting q in
    let few = g.sound.few in
    let mark = g.sound.mark in
    let w = all_drop q.acked ss g.sound.each g.sound.proper in
    let l = length-drop q.acked ss in
    let c = sum-most ws w.1 in
    let a = first-most (fills_of ws) (contracts ws) (omega (arith, count_most is_fill ws)) (omega arith) in
    let b = lines-most ws (q.acked + 1) (omega arith) w.0 w.1 in
    let fills : fills_of ws ≤ most_fills = omega (arith, count-split is_fill q.acked ss, fills-all q g.sound, g.sound.fills-few) in
    let entries : entries_of ws ≤ most_entries = omega (arith, count-split is_entry q.acked ss, entries-all q g.sound, g.sound.entries-few) in
    omega (arith, length-append (first_line ws) (lines_from (q.acked + 1) ws))

-- 65,536 bytes are always enough
pub listing-most : (notes : List ℕ) → length (listing notes) ≤ longest_file
unfolding listing
listing-most notes =
    of-cond (λ (l : List ℕ). length l ≤ longest_file) (is_too_long notes)
    (λ e. omega arith)
    (λ e. printed-most (length notes) (restart notes) (ltb-false longest_file (length notes) e) (restart-given notes))

-- ---- which listing it is
pub listing-long : (notes : List ℕ) → longest_file < length notes → listing notes ≡ too_long
unfolding listing
listing-long notes h = cond-true (is_too_long notes) too_long (printed (restart notes)) (lt-ltb longest_file (length notes) h)

pub listing-is : (notes : List ℕ) → length notes ≤ longest_file → listing notes ≡ printed (restart notes)
unfolding listing
listing-is notes h = cond-false (is_too_long notes) too_long (printed (restart notes)) (le-ltb longest_file (length notes) h)

-- the first line counts the waiting fills and their contracts, and the lines of all that wait follow
pub listing-counts : (notes : List ℕ) (q : Kept) (whole : ℕ) → length notes ≤ longest_file → restart notes ≡ Again q whole
    → listing notes ≡ first_of (fills_of (waiting q)) (contracts (waiting q)) ++ lines_from (q.acked + 1) (waiting q)
listing-counts notes q whole h e = listing-is notes h ∙ ap printed e

-- ---- the loops: the slots from the i-th on
module _ (n i : ℕ) (m : List ℕ) where
  pub count-step : (s : Slot) → i < n → s ≡ slot_at i m → fills_of (drop i (slots_in n m)) ≡ cond (is_fill s) 1 0 + fills_of (drop (i + 1) (slots_in n m))
  unfolding count_where
  count-step s h e = ap fills_of (slots-step n i m h) ∙ ap (λ (x : Slot). cond (is_fill x) 1 0 + fills_of (drop (i + 1) (slots_in n m))) (sym e)

  pub count-done : n ≤ i → fills_of (drop i (slots_in n m)) ≡ 0
  unfolding count_where
  count-done h = ap fills_of (slots_end n i m h)

  pub sum_step : (s : Slot) → i < n → s ≡ slot_at i m
      → contracts (drop i (slots_in n m)) ≡ cond (is_fill s) (shares_of s) 0 + contracts (drop (i + 1) (slots_in n m))
  unfolding sum_where
  sum_step s h e =
      ap contracts (slots-step n i m h) ∙ ap (λ (x : Slot). cond (is_fill x) (shares_of x) 0 + contracts (drop (i + 1) (slots_in n m))) (sym e)

  pub sum_done : n ≤ i → contracts (drop i (slots_in n m)) ≡ 0
  unfolding sum_where
  sum_done h = ap contracts (slots_end n i m h)

  pub lines_step : (s : Slot) → i < n → s ≡ slot_at i m
      → lines_from (i + 1) (drop i (slots_in n m)) ≡ line_of (i + 1) s ++ lines_from (i + 1 + 1) (drop (i + 1) (slots_in n m))
  unfolding lines_from
  lines_step s h e =
      ap (lines_from (i + 1)) (slots-step n i m h) ∙ ap (λ (x : Slot). line_of (i + 1) x ++ lines_from (i + 1 + 1) (drop (i + 1) (slots_in n m))) (sym e)

  pub lines-done : n ≤ i → lines_from (i + 1) (drop i (slots_in n m)) ≡ []
  unfolding lines_from
  lines-done h = ap (lines_from (i + 1)) (slots_end n i m h)

-- a text written part by part: `done` bytes of it stand there, and one part more
module _ (page₀ whole : List ℕ) (at done : ℕ) where
  pub write-more : (page page' x rest : List ℕ) → at + length whole ≤ length page₀ → page ≡ splice page₀ at (take done whole) → done ≤ length whole → drop done whole ≡ x ++ rest
      → page' ≡ splice page (at + done) x
      → (page' ≡ splice page₀ at (take (done + length x) whole)) × (done + length x ≤ length whole) × (drop (done + length x) whole ≡ rest)
  write-more page page' x rest room e h d f =
      let ld = length-drop done whole in
      let lx = ap length d ∙ length-append x rest in
      let lt : length (take done whole) ≡ done = length-take done whole ∙ (let k : min done (length whole) ≡ done = omega arith in k) in
      let cut : take done whole ++ x ≡ take (done + length x) whole =
      ap (λ (l : List ℕ). take done whole ++ l) (sym (take-append_seam x rest) ∙ ap (take (length x)) (sym d)) ∙ sym (take-add done (length x) whole) in (
        f ∙ ap (λ (l : List ℕ). splice l (at + done) x) e
            ∙ ap (λ (k : ℕ). splice (splice page₀ at (take done whole)) (at + k) x) (sym lt)
            ∙ splice-join page₀ at (take done whole) x (omega arith)
            ∙ ap (splice page₀ at) cut,
        omega arith,
        sym (drop-drop (length x) done whole) ∙ ap (drop (length x)) d ∙ drop-append_seam x rest,
      )

  pub write_done : (page : List ℕ) → page ≡ splice page₀ at (take done whole) → done ≤ length whole → drop done whole ≡ [] → (page ≡ splice page₀ at whole) × (done ≡ length whole)
  write_done page e h d =
      let l : length whole ≤ done = omega (arith, length-drop done whole, ap length d) in
      (e ∙ ap (splice page₀ at) (take_all done whole l), omega arith)
  -- before the first part

pub write-start : (page whole : List ℕ) (at : ℕ) → (page ≡ splice page at (take (at - at) whole)) × (drop (at - at) whole ≡ whole)
write-start page whole at = (sym (ap (λ (k : ℕ). splice page at (take k whole)) (sub_self at) ∙ splice-nil page at), ap (λ (k : ℕ). drop k whole) (sub_self at))

-- ---- the lines, from slot from + 1 on: so far up to place `end`, with those from the i-th on to come
pub record Lined (page₀ book : List ℕ) (at from last : ℕ) (page : List ℕ) (end i : ℕ) : Type 0 where
  pub stands : page ≡ splice page₀ at (take (end - at) (lines_in from last book))
  pub to-come : drop (end - at) (lines_in from last book) ≡ lines_from (i + 1) (drop i (slots_in last book))
  pub after : at ≤ end
  pub within : end - at ≤ length (lines_in from last book)

pub lined-start : (page book : List ℕ) (at from last : ℕ) → Lined page book at from last page at from
lined-start page book at from last =
    let g = write-start page (lines_in from last book) at in
    record { stands = g.0; to-come = g.1; after = omega arith; within = omega arith }

pub lined-turn : (page₀ book page page' : List ℕ) (at from last end i n len : ℕ) (s : Slot) → at + length (lines_in from last book) ≤ length page₀
    → Lined page₀ book at from last page end i → i < last → n ≡ i + 1 → s ≡ slot_at i book → page' ≡ splice page end (line_of n s) → len ≡ length (line_of n s)
    → Lined page₀ book at from last page' (end + len) (i + 1) × (end + len ≤ at + length (lines_in from last book))
lined-turn page₀ book page page' at from last end i n len s room h b en es ep el =
    let whole = lines_in from last book in
    let rest = lines_from (i + 1 + 1) (drop (i + 1) (slots_in last book)) in
    let done = end - at in
    let x = line_of (i + 1) s in
    let a = h.after in
    let w = h.within in
    let e : end ≡ at + done = omega arith in
    let lx : len ≡ length x = el ∙ ap (λ (k : ℕ). length (line_of k s)) en in
    let d : drop done whole ≡ x ++ rest = h.to-come ∙ lines_step last i book s b es in
    let f : page' ≡ splice page (at + done) x = ep ∙ ap₂ (λ (k j : ℕ). splice page k (line_of j s)) e en in
    let g = write-more page₀ whole at done page page' x rest room h.stands w d f in
    let k : done + length x ≡ end + len - at = omega arith in
    let m = g.1 in (
      record {
        stands = g.0 ∙ ap (λ (j : ℕ). splice page₀ at (take j whole)) k;
        to-come = sym (ap (λ (j : ℕ). drop j whole) k) ∙ g.2;
        after = omega arith;
        within = omega arith;
      },
      omega arith,
    )

pub lined-done : (page₀ book page : List ℕ) (at from last end i : ℕ) → Lined page₀ book at from last page end i → last ≤ i
    → (page ≡ splice page₀ at (lines_in from last book)) × (end ≡ at + length (lines_in from last book))
lined-done page₀ book page at from last end i h b =
    let a = h.after in
    let g = write_done page₀ (lines_in from last book) at (end - at) page h.stands h.within (h.to-come ∙ lines-done last i book b) in
    let l = g.1 in
    (g.0, omega arith)

-- ---- what was written over zeros is read back
pub written_back : (z l z' : List ℕ) (len : ℕ) → length l ≤ length z → z' ≡ splice z 0 l → len ≡ length l → take len z' ≡ l
written_back z l z' len h e f = ap₂ take f e ∙ splice-read z 0 l (omega arith)

pub line-length : (z l : List ℕ) (len : ℕ) → length l ≤ length z → len ≡ cond (fits_at z 0 l) (length l) 0 → len ≡ length l
line-length z l len h e = e ∙ cond-true (fits_at z 0 l) (length l) 0 (fits-true z 0 l (omega arith))

-- ---- texts
-- a text that is placed at the front of a page
pub placed : (page page' x : List ℕ) (t : Text) (r : ℕ) → t ≡ puts empty x → length x ≤ 512 → length x ≤ length page → page' ≡ splice page 0 (held t)
    → r ≡ cond (fits_at page 0 (held t)) (0 + length (held t)) 0 → (page' ≡ splice page 0 x) × (r ≡ length x)
placed page page' x t r et short room ep er =
    let e : held t ≡ x = ap held et ∙ held-short x short in (
      ep ∙ ap (splice page 0) e,
      er ∙ ap (λ (l : List ℕ). cond (fits_at page 0 l) (0 + length l) 0) e
          ∙ cond-true (fits_at page 0 x) (0 + length x) 0 (fits-true page 0 x (omega arith))
          ∙ (let i : 0 + length x ≡ length x = omega arith in i),
    )

-- the first line and then the others
pub page-whole : (page page₁ page₂ first lines : List ℕ) (end r : ℕ) → length (first ++ lines) ≤ length page → page₁ ≡ splice page 0 first → end ≡ length first
    → page₂ ≡ splice page₁ end lines → r ≡ end + length lines → (page₂ ≡ splice page 0 (first ++ lines)) × (r ≡ length (first ++ lines))
page-whole page page₁ page₂ first lines end r h e₁ en e₂ er =
    let l = length-append first lines in
    (e₂ ∙ ap (λ (p : List ℕ). splice p end lines) e₁ ∙ splice-then page 0 end first lines (omega arith) (omega arith), omega arith)

-- ---- the day of the notes, or the line that says that there is none
counts_in : Counts → Result Restarted ℕ → Counts
counts_in k (Ok again) = again.counts
counts_in k (Err at) = k

-- by what a restart gave
pub day-again : (o : Outcome) (again : Restarted) (len : ℕ) → Ok again ≡ told o → (Ok again.counts ≡ day_by len o) × ([] ≡ said_by o)
unfolding counts_in
day-again (Again q w) again len e = (ap Ok (ap (counts_in again.counts) e), refl)
day-again (Unlawful at) again len e = absurd cc

pub day-damaged : (o : Outcome) (at len : ℕ) → Err at ≡ told o → (Err len ≡ day_by len o) × (damaged at ≡ said_by o)
day-damaged (Again q w) at len e = absurd cc
day-damaged (Unlawful p) at len e = let f : at ≡ p = cc in (refl, ap damaged f)

pub damaged-at : (o : Outcome) (at most : ℕ) → Err at ≡ told o → GivenIn most o → at ≤ most
damaged-at (Again q w) at most e g = absurd cc
damaged-at (Unlawful p) at most e g = let f : at ≡ p = cc in omega arith

-- by how long the notes are
module _ (notes : List ℕ) (len : ℕ) where
  pub day-long : longest_file < length notes → (Err len ≡ day_of notes len) × (too_long ≡ said_of notes)
  unfolding day_of said_of
  day-long h =
      let t = lt-ltb longest_file (length notes) h in
      (sym (cond-true (is_too_long notes) (Err len) (day_by len (restart notes)) t), sym (cond-true (is_too_long notes) too_long (said_by (restart notes)) t))

  pub day-is : length notes ≤ longest_file → (day_by len (restart notes) ≡ day_of notes len) × (said_by (restart notes) ≡ said_of notes)
  unfolding day_of said_of
  day-is h =
      let t = le-ltb longest_file (length notes) h in
      (sym (cond-false (is_too_long notes) (Err len) (day_by len (restart notes)) t), sym (cond-false (is_too_long notes) too_long (said_by (restart notes)) t))

-- the day that is found is the restart's, and is printed
pub record Paged (o : Outcome) (k : Counts) (book : List ℕ) : Type 0 where
  pub page : waiting_page k.acked (slots_in k.last book) ≡ printed o
  pub few : k.last ≤ most_slots
  pub mark : k.acked ≤ k.last
  pub unsaid : [] ≡ said_by o

paged : (o : Outcome) (k : Counts) (len most : ℕ) (book : List ℕ) → Ok k ≡ day_by len o → GivenIn most o → HasDay book o → Paged o k book
paged (Unlawful at) k len most book e g h = absurd cc
paged (Again q w) k len most book e g h =
    let f : k ≡ counts_of q = cc in
    subst (λ (x : Counts). Paged (Again q w) x book) (sym f)
    (record { page = ap (waiting_page q.acked) h.0; few = g.sound.few; mark = g.sound.mark; unsaid = refl })

pub record Found (notes : List ℕ) (len : ℕ) (k : Counts) (book : List ℕ) : Type 0 where
  pub short : length notes ≤ longest_file
  pub given : Ok k ≡ day_by len (restart notes)
  pub paged : Paged (restart notes) k book
  pub unsaid : [] ≡ said_of notes

pub found : (notes : List ℕ) (len : ℕ) (k : Counts) (book : List ℕ) → Ok k ≡ day_of notes len → HasDay book (restart notes) → Found notes len k book
found notes len k book e h =
    ⊎_elim
    (λ l. (let d = day-is notes len l in
    let g = e ∙ sym d.0 in
    let p = paged (restart notes) k len (length notes) book g (restart-given notes) h in
    record { short = l; given = g; paged = p; unsaid = p.unsaid ∙ d.1 }))
    (λ l. absurd (let d = (day-long notes len l).0 in cc))
    (le-or-lt (length notes) longest_file)

-- of a file that keeps none, the line is what is printed, and it is short
pub record Unfound (notes : List ℕ) (len r : ℕ) : Type 0 where
  pub len-is : r ≡ len
  pub said : said_of notes ≡ listing notes
  pub short : length (said_of notes) ≤ 32

damaged-short : (o : Outcome) (len r most : ℕ) → Err r ≡ day_by len o → most ≤ longest_file → GivenIn most o → (r ≡ len) × (said_by o ≡ printed o) × (length (said_by o) ≤ 32)
damaged-short (Again q w) len r most e h g = absurd cc
damaged-short (Unlawful at) len r most e h g = (cc, refl, damaged-most at (omega arith))

pub unfound : (notes : List ℕ) (len r : ℕ) → Err r ≡ day_of notes len → Unfound notes len r
unfound notes len r e =
    ⊎_elim
    (λ l. (let d = day-is notes len l in
    let g = damaged-short (restart notes) len r (length notes) (e ∙ sym d.0) l (restart-given notes) in
    record { len-is = g.0; said = sym d.1 ∙ g.1 ∙ sym (listing-is notes l); short = omega (arith, g.2, ap length d.1) }))
    (λ l. (let d = day-long notes len l in
    let f = d.0 in
    record { len-is = cc; said = sym d.1 ∙ sym (listing-long notes l); short = omega (arith, ap length d.1) }))
    (le-or-lt (length notes) longest_file)

pub book-long : (book notes : List ℕ) → longest_file < length notes → book ≡ book_listed book notes
unfolding book_listed
book-long book notes h = sym (cond-true (is_too_long notes) book (book_after book (restart notes)) (lt-ltb longest_file (length notes) h))

pub book-is : (book notes : List ℕ) → length notes ≤ longest_file → book_after book (restart notes) ≡ book_listed book notes
unfolding book_listed
book-is book notes h = sym (cond-false (is_too_long notes) book (book_after book (restart notes)) (le-ltb longest_file (length notes) h))

pub printed-fits : (notes : List ℕ) → length notes ≤ longest_file → length (printed (restart notes)) ≤ longest_file
printed-fits notes h = subst (λ (l : List ℕ). length l ≤ longest_file) (listing-is notes h) (listing-most notes)

-- ---- the page of what waits: its first line stands, and there is room for the others
module _ (f k fills sum end : ℕ) (book page page₁ : List ℕ) (t : Text) where
  pub headed : k ≤ f → f ≤ most_slots → length (waiting_page k (slots_in f book)) ≤ length page → fills ≡ fills_of (drop k (slots_in f book))
      → sum ≡ contracts (drop k (slots_in f book)) → sum ≤ most_slots * largest
      → t ≡ puts empty (first_of fills sum) → page₁ ≡ splice page 0 (held t) → end ≡ cond (fits_at page 0 (held t)) (0 + length (held t)) 0
      → (page₁ ≡ splice page 0 (first_line (drop k (slots_in f book)))) × (end ≡ length (first_line (drop k (slots_in f book)))) × (end + length (lines_in k f book) ≤ length page₁)
  headed hk hf room ec es hs et ep en =
      let first = first_line (drop k (slots_in f book)) in
      let few : fills ≤ f = omega (arith, count_most is_fill (drop k (slots_in f book)), length-drop k (slots_in f book), slots_length f book) in
      let ex : first_of fills sum ≡ first = ap₂ first_of ec es in
      let short = first-most fills sum (omega arith) (omega arith) in
      let lx = ap length ex in
      let whole = length-append first (lines_in k f book) in
      let g = placed page page₁ (first_of fills sum) t end et (omega arith) (omega arith) ep en in
      let lp : length page₁ ≡ length page = ap length g.0 ∙ splice-length page 0 (first_of fills sum) in
      let e : end ≡ length first = g.1 ∙ lx in
      (g.0 ∙ ap (splice page 0) ex, e, omega arith)
