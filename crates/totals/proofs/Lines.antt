-- Laws of the totals: how long their lines are, that a line more stands after the others, and what is printed of what a restart gave.
use Prim.Native.Nat.{ℕ, suc, ◌+◌, ◌≤◌, ◌<◌, ◌^◌}
use mathlib.Core.Path.{◌≡◌, refl, sym, ap, ap₂, ◌∙◌}
use mathlib.Core.List.{List, [], ◌∷◌, ◌++◌, append-nil, append_assoc}
use mathlib.Core.Bool.{cond}
use native.Mathlib.Nat.{zero-add}
use native.Mathlib.Numerals.{add-one}
use native.Mathlib.Omega.{arith}
use lib.ListN.{length, drop, get_or, length-append, length-take, length-drop}
use borrow.Author.Tests.{lt-ltb, le-ltb}
use Rattle.octet.specs.Padded.{text_of}
use Rattle.octet.specs.Splice.{splice, fits_at}
use Rattle.octet.proofs.Cases.{cond-true, cond-false, le-or-lt}
use Rattle.octet.proofs.Lists.{splice-then, splice-nil, splice-length, fits-true}
use Rattle.text.specs.Writing.{empty, puts, held}
use Rattle.text.specs.declared.Text.{Text}
use Rattle.text.proofs.Decimals.{decimal-length}
use Rattle.text.proofs.Puts.{held-short}
use Rattle.book.specs.Place.{most_orders}
use mathlib.Core.Logic.{⊎_elim}
use Rattle.listing.proofs.Pages.{day-is, day-long}
use Rattle.restart.specs.Restart.{Outcome, Again, Unlawful, restart, counts_of}
use Rattle.restart.specs.declared.Counts.{Counts}
use Rattle.std.specs.Prelude.{Ok, Err}
use Rattle.queue.specs.declared.Marks.{Marks}
use Rattle.page.specs.Page.{Paged, row_of, rows_from, told_of, page_of}
use Rattle.page.specs.declared.OrderRow.{OrderRow}
use Rattle.page.proofs.Upto.{rows_more}
use Rattle.listing.specs.Listing.{longest_file, is_too_long, too_long, book_listed, said_by, said_of, day_by, day_of}
use Rattle.totals.specs.Totals.{totals_by, totals_in, marks_from, totals_for, totals_of, row_line, row_lines, day_line, most_row_line, most_day_line, most_totals, Stands}

-- ---- how long a line is
text-most : (f : List ℕ) → length f ≡ 31 → length (text_of f) ≤ 30
unfolding text_of
text-most f h = omega (arith, length-take (get_or f 0 0) (drop 1 f), length-drop 1 f)

pub row-most : (row : OrderRow) → length row.id ≡ 31 → row.waiting < 10 ^ 10 → length (row_line row) ≤ most_row_line
unfolding row_line
row-most row h w =
    let a = text-most row.id h in
    let b = decimal-length 9 row.waiting w in
    simp length-append (omega arith)

pub day-most : (day : ℕ) → day < 10 ^ 10 → length (day_line day) ≤ most_day_line
unfolding day_line
day-most day h = let a = decimal-length 9 day h in simp length-append (omega arith)

-- ---- the lines of the rows
lines-append : (xs ys : List OrderRow) → row_lines (xs ++ ys) ≡ row_lines xs ++ row_lines ys
unfolding row_lines
lines-append [] ys = refl
lines-append (x ∷ xs) ys = ap (λ (l : List ℕ). row_line x ++ l) (lines-append xs ys) ∙ sym (append_assoc (row_line x) (row_lines xs) (row_lines ys))

lines-one : (x : OrderRow) → row_lines (x ∷ []) ≡ row_line x
unfolding row_lines
lines-one x = append-nil (row_line x)

pub lines_none : (m : Marks) (b : List ℕ) → row_lines (page_of m b 0) ≡ []
unfolding row_lines rows_from
lines_none m b = refl

page-more : (m : Marks) (b : List ℕ) (i : ℕ) → page_of m b (i + 1) ≡ page_of m b i ++ (row_of m b i ∷ [])
page-more m b i =
    ap (page_of m b) (add-one i) ∙ sym (append-nil (page_of m b (suc i))) ∙ sym (rows_more m b 0 i [])
    ∙ ap (λ (n : ℕ). page_of m b i ++ (row_of m b n ∷ [])) (zero-add i)

pub lines_more : (m : Marks) (b : List ℕ) (i : ℕ) → row_lines (page_of m b i) ++ row_line (row_of m b i) ≡ row_lines (page_of m b (i + 1))
lines_more m b i =
    sym (ap row_lines (page-more m b i) ∙ lines-append (page_of m b i) (row_of m b i ∷ []) ∙ ap (λ (l : List ℕ). row_lines (page_of m b i) ++ l) (lines-one (row_of m b i)))

-- ---- a text that stands there is any that is the same
pub stands-as : (page : List ℕ) {a b page' : List ℕ} {r : ℕ} → a ≡ b → Stands a page r page' → Stands b page r page'
stands-as page e h = (h.0 ∙ ap (splice page 0) e, h.1 ∙ ap length e)

-- ---- a text more stands after the others
pub stands-more : (page₀ page page' text x : List ℕ) (t : Text) (end r : ℕ) → Stands text page₀ end page → t ≡ puts empty x → length x ≤ 512 → end + length x ≤ length page₀
    → page' ≡ splice page end (held t) → r ≡ cond (fits_at page end (held t)) (end + length (held t)) end → Stands (text ++ x) page₀ r page'
stands-more page₀ page page' text x t end r h et short room ep er =
    let e : held t ≡ x = ap held et ∙ held-short x short in
    let n = h.1 in
    let lp : length page ≡ length page₀ = ap length h.0 ∙ splice-length page₀ 0 text in
    let l = length-append text x in (
      ep ∙ ap₂ (λ (p l : List ℕ). splice p end l) h.0 e ∙ splice-then page₀ 0 end text x (omega arith) (omega arith),
      er ∙ ap (λ (l : List ℕ). cond (fits_at page end l) (end + length l) end) e ∙ cond-true (fits_at page end x) (end + length x) end (fits-true page end x (omega arith))
          ∙ (let i : end + length x ≡ length (text ++ x) = omega arith in i),
    )

-- ---- the rows one by one
pub rows_start : (m : Marks) (b page : List ℕ) → Stands (row_lines (page_of m b 0)) page 0 page
rows_start m b page = (sym (ap (splice page 0) (lines_none m b) ∙ splice-nil page 0), sym (ap length (lines_none m b)))

pub rows-turn : (m : Marks) (b page₀ page page' : List ℕ) (row : OrderRow) (t : Text) (end r i : ℕ) → Stands (row_lines (page_of m b i)) page₀ end page
    → length page₀ ≡ most_totals → end + most_row_line ≤ most_totals → row ≡ row_of m b i → t ≡ puts empty (row_line row) → length (row_line row) ≤ most_row_line
    → page' ≡ splice page end (held t) → r ≡ cond (fits_at page end (held t)) (end + length (held t)) end
    → Stands (row_lines (page_of m b (i + 1))) page₀ r page' × (r ≤ end + most_row_line)
rows-turn m b page₀ page page' row t end r i h len room er et short ep en =
    let g = stands-more page₀ page page' (row_lines (page_of m b i)) (row_line row) t end r h et (omega arith) (omega arith) ep en in
    let n = h.1 in
    let k = g.1 in
    let l = length-append (row_lines (page_of m b i)) (row_line row) in (
      stands-as page₀ (ap (λ (x : OrderRow). row_lines (page_of m b i) ++ row_line x) er ∙ lines_more m b i) g,
      omega arith,
    )

-- ---- which text it is
pub totals-by : (m : Marks) (b : List ℕ) (p : Paged) → p ≡ told_of m most_orders → totals_by m b p ≡ totals_in m b
unfolding totals_in
totals-by m b p e = ap (totals_by m b) e

pub totals-long : (book notes : List ℕ) → longest_file < length notes → totals_of book notes ≡ too_long
unfolding totals_of
totals-long book notes h = cond-true (is_too_long notes) too_long (totals_for (book_listed book notes) (restart notes)) (lt-ltb longest_file (length notes) h)

pub totals-is : (book notes : List ℕ) → length notes ≤ longest_file → totals_of book notes ≡ totals_for (book_listed book notes) (restart notes)
unfolding totals_of
totals-is book notes h = cond-false (is_too_long notes) too_long (totals_for (book_listed book notes) (restart notes)) (le-ltb longest_file (length notes) h)

pub again-is : (o : Outcome) (k : Counts) (len : ℕ) (book : List ℕ) → Ok k ≡ day_by len o → totals_in (marks_from k) book ≡ totals_for book o
again-is (Unlawful at) k len book e = absurd cc
again-is (Again q w) k len book e = let f : k ≡ counts_of q = cc in ap (λ (x : Counts). totals_in (marks_from x) book) f

-- of a file that keeps no day, the line that says so
pub damaged-for : (o : Outcome) (len r : ℕ) (book : List ℕ) → Err r ≡ day_by len o → said_by o ≡ totals_for book o
damaged-for (Again q w) len r book e = absurd cc
damaged-for (Unlawful p) len r book e = refl

pub unfound-for : (notes : List ℕ) (len r : ℕ) (book : List ℕ) → Err r ≡ day_of notes len → said_of notes ≡ totals_of book notes
unfound-for notes len r book e =
    ⊎_elim
    (λ l. (let d = day-is notes len l in sym d.1 ∙ damaged-for (restart notes) len r (book_listed book notes) (e ∙ sym d.0) ∙ sym (totals-is book notes l)))
    (λ l. sym (day-long notes len l).1 ∙ sym (totals-long book notes l))
    (le-or-lt (length notes) longest_file)
