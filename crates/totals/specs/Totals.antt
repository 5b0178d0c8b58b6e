-- The totals by a file of notes: a line for each order, what waits of it, and the day's sum under them.
use Rattle.std.specs.Prelude.{ℕ, ◌≡◌, List, [], ◌∷◌, ◌++◌, cond, length, Ok, Err}
use Rattle.octet.specs.Bytes.{bytes_of}
use Rattle.octet.specs.Padded.{text_of}
use Rattle.octet.specs.Splice.{splice}
use Rattle.text.specs.Decimal.{decimal}
use Rattle.fill.specs.Slot.{line_feed}
use Rattle.book.specs.Place.{most_orders}
use Rattle.note.specs.Notes.{written}
use Rattle.restart.specs.Restart.{Outcome, Again, Unlawful, restart, counts_of, load_in}
use Rattle.restart.specs.declared.Counts.{Counts}
use Rattle.queue.specs.Queue.{marks_again}
use Rattle.queue.specs.declared.Marks.{Marks}
use Rattle.page.specs.Page.{Paged, told_of, page_of}
use Rattle.page.specs.declared.OrderRow.{OrderRow}
use Rattle.listing.specs.Listing.{damaged, is_too_long, too_long, book_listed}

-- the OrderID, a space and what waits of the order
unfoldable pub row_line : OrderRow → List ℕ
row_line row = text_of row.id ++ bytes_of " " ++ decimal row.waiting ++ line_feed

unfoldable pub row_lines : List OrderRow → List ℕ
row_lines [] = []
row_lines (row ∷ rows) = row_line row ++ row_lines rows

unfoldable pub day_line : ℕ → List ℕ
day_line day = bytes_of "day " ++ decimal day ++ line_feed

-- by what the page tells when it is lent enough rows, so that it is never refused
abbrev pub totals_by : Marks → List ℕ → Paged → List ℕ
totals_by marks book (Err why) = []
totals_by marks book (Ok shown) = row_lines (page_of marks book shown.orders) ++ day_line shown.day

-- the totals of a day in memory
unfoldable pub totals_in : Marks → List ℕ → List ℕ
totals_in marks book = totals_by marks book (told_of marks most_orders)

-- the marks after a restart
abbrev pub marks_from : Counts → Marks
marks_from m = marks_again m.last (load_in m) m.acked m.day

-- from what a restart gave, and the book after it; a damaged file and one that is too long are told as by the listing
abbrev pub totals_for : List ℕ → Outcome → List ℕ
totals_for book (Unlawful at) = damaged at
totals_for book (Again q whole) = totals_in (marks_from (counts_of q)) book

-- the text for a lent book and a file of notes
unfoldable pub totals_of : List ℕ → List ℕ → List ℕ
totals_of book notes = cond (is_too_long notes) too_long (totals_for (book_listed book notes) (restart notes))

-- no line of a row has more bytes: an OrderID of 30, a space, ten digits and a line feed
abbrev pub most_row_line : ℕ
most_row_line = 42

-- "day ", ten digits and a line feed
abbrev pub most_day_line : ℕ
most_day_line = 15

-- 128 rows and the last line
abbrev pub most_totals : ℕ
most_totals = 5391

-- what stands on a page that has room, and how long it is
abbrev pub Stands : List ℕ → List ℕ → ℕ → List ℕ → Type 0
Stands text page r page' = (page' ≡ splice page 0 text) × (r ≡ length text)

-- what the totals answer, and what stands in the book and in the lent bytes
abbrev pub Totals : List ℕ → List ℕ → List ℕ → ℕ → List ℕ → List ℕ → Type 0
Totals notes book out r book' out' =
    (r ≡ written out (totals_of book notes)) × (out' ≡ splice out 0 (totals_of book notes)) × (book' ≡ book_listed book notes)
