-- The totals page: what it answers, how many rows it writes, and the rows after it. "fewer than 128 rows" is refused; "rows beyond the last order are left as found".
use Rattle.std.specs.Prelude.{ℕ, zero, suc, min, ◌≡◌, List, [], ◌∷◌, ◌++◌, Bool, cond, length, drop, get_or, replicate, ltb, Result, Ok, Err}
use Rattle.octet.specs.Splice.{splice}
use Rattle.fill.specs.Slot.{Slot, order_of}
use Rattle.book.specs.Rows.{Row, head_of, waits_in}
use Rattle.book.specs.Memory.{slots_in, rows_in}
use Rattle.book.specs.Place.{most_orders}
use Rattle.queue.specs.declared.Marks.{Marks}
use Rattle.answer.specs.declared.Refusal.{Refusal}
use Rattle.answer.specs.declared.Refusal.TheVariants as refusal
use Rattle.page.specs.declared.OrderRow.{OrderRow}
use Rattle.page.specs.declared.Shown.{Shown}

-- as many rows as there can be orders are asked for
abbrev pub few_rows : ℕ → Bool
few_rows lent = ltb lent most_orders

-- how many orders are shown
abbrev pub shown_of : Marks → ℕ
shown_of marks = min marks.load.orders most_orders

-- what a page answers: how many orders there are, and the day's sum; or a refusal
abbrev pub Paged : Type 0
Paged = Result Shown Refusal

abbrev pub shows : ℕ → ℕ → Paged
shows orders day = Ok (record { orders = orders; day = day })

unfoldable pub told_of : Marks → ℕ → Paged
told_of marks lent = cond (few_rows lent) (Err refusal.ShortBuffer) (shows (shown_of marks) marks.day)

-- how many rows are written
unfoldable pub due_of : Marks → ℕ → ℕ
due_of marks lent = cond (few_rows lent) 0 (shown_of marks)

-- a row of the book as the page has it: the OrderID of its order's first fill in 31 bytes, "a length byte and zero padding", and the contracts that wait
abbrev pub row_as : List Slot → Row → OrderRow
row_as ss r = record { id = splice (replicate 31 0) 0 (order_of (head_of ss r)); waiting = waits_in r }

-- the row of order i
unfoldable pub row_of : Marks → List ℕ → ℕ → OrderRow
row_of marks book i = row_as (slots_in marks.last book) (get_or (rows_in marks.load.orders book) i [])

-- the rows from i on, k of them
unfoldable pub rows_from : Marks → List ℕ → ℕ → ℕ → List OrderRow
rows_from marks book i zero = []
rows_from marks book i (suc k) = row_of marks book i ∷ rows_from marks book (suc i) k

abbrev pub page_of : Marks → List ℕ → ℕ → List OrderRow
page_of marks book n = rows_from marks book 0 n

-- what is answered, and what stands in the rows
abbrev pub Pages : Marks → List ℕ → List OrderRow → Paged → List OrderRow → Type 0
Pages marks book rows r rows' =
    (r ≡ told_of marks (length rows)) × (rows' ≡ page_of marks book (due_of marks (length rows)) ++ drop (due_of marks (length rows)) rows)
