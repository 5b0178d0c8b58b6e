-- The rows while a page is written.
--     upto marks book i ys     the first i rows are the page's, and the rest are ys's
--     rows_more        one row more at a page's end
--     upto-none        none is written.        upto-more        row i is put.        length-upto      the length stays.        upto-front       what a page of n leaves
-- Assumes nothing.
use mathlib.Core.Path.{◌≡◌, refl, sym, ◌∙◌, ap}
use Prim.Native.Nat.{ℕ, zero, suc, ◌+◌, ◌≤◌, ◌<◌}
use native.Mathlib.Nat.{zero-add}
use native.Mathlib.Numerals.{add-one}
use native.Mathlib.Omega.{arith}
use mathlib.Core.List.{List, ◌∷◌, ◌++◌, append-nil}
use lib.ListN.{drop_of_length-le}
use lib.ListN.{length, take, drop, set, get_or, length-append, length-take, length-drop}
use lib.Seq.{drop-cons, set_at}
use Rattle.queue.specs.declared.Marks.{Marks}
use Rattle.page.specs.declared.OrderRow.{OrderRow}
use Rattle.page.specs.Page.{row_of, rows_from, page_of}

unfoldable pub upto : Marks → List ℕ → ℕ → List OrderRow → List OrderRow
upto m b i ys = page_of m b i ++ drop i ys

length-rows : (m : Marks) (b : List ℕ) (j k : ℕ) → length (rows_from m b j k) ≡ k
unfolding rows_from
length-rows m b j zero = refl
length-rows m b j (suc k) = ap suc (length-rows m b (suc j) k)

pub rows_more : (m : Marks) (b : List ℕ) (j k : ℕ) (t : List OrderRow) → rows_from m b j k ++ (row_of m b (j + k) ∷ t) ≡ rows_from m b j (suc k) ++ t
unfolding rows_from
rows_more m b j zero t = ap (λ (n : ℕ). row_of m b n ∷ t) (omega arith)
rows_more m b j (suc k) t =
    ap (λ (l : List OrderRow). row_of m b j ∷ l)
    (ap (λ (n : ℕ). rows_from m b (suc j) k ++ (row_of m b n ∷ t)) (omega arith) ∙ rows_more m b (suc j) k t)

pub upto-none : (m : Marks) (b : List ℕ) (ys : List OrderRow) → upto m b 0 ys ≡ ys
unfolding upto rows_from
upto-none m b ys = refl

pub length-upto : (m : Marks) (b : List ℕ) (i : ℕ) (ys : List OrderRow) → i ≤ length ys → length (upto m b i ys) ≡ length ys
unfolding upto
length-upto m b i ys h = simp (length-append, length-rows, length-drop) (omega arith)

pub upto-more : (m : Marks) (b : List ℕ) (i : ℕ) (ys : List OrderRow) → i < length ys → set (upto m b i ys) i (row_of m b i) ≡ upto m b (i + 1) ys
unfolding upto
upto-more m b i ys h =
    ap (λ (l : List OrderRow). set (page_of m b i ++ l) i (row_of m b i)) (drop-cons ys i (row_of m b i) h) ∙
    set_at (page_of m b i) (get_or ys i (row_of m b i)) (drop (suc i) ys) (row_of m b i) i (length-rows m b 0 i) ∙
    ap (λ (n : ℕ). page_of m b i ++ (row_of m b n ∷ drop (suc i) ys)) (sym (zero-add i)) ∙ rows_more m b 0 i (drop (suc i) ys) ∙
    ap (λ (n : ℕ). page_of m b n ++ drop n ys) (sym (add-one i))

pub upto-front : (m : Marks) (b : List ℕ) (n : ℕ) (ys : List OrderRow) → n ≤ length ys → upto m b n (take n ys) ++ drop n ys ≡ page_of m b n ++ drop n ys
unfolding upto
upto-front m b n ys h =
    ap (λ (l : List OrderRow). page_of m b n ++ l ++ drop n ys) (drop_of_length-le (take n ys) (simp length-take (omega arith)))
    ∙ ap (λ (l : List OrderRow). l ++ drop n ys) (append-nil (page_of m b n))
