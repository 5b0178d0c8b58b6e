-- "What the listing prints".
use Rattle.std.specs.Prelude.{ℕ, ◌+◌, ◌≡◌, List, [], ◌∷◌, ◌++◌, Bool, cond, length, drop, ltb, Result, Ok, Err}
use Rattle.octet.specs.Bytes.{bytes_of}
use Rattle.octet.specs.Splice.{splice}
use Rattle.text.specs.Decimal.{decimal}
use Rattle.fill.specs.Slot.{Slot, is_fill, line_feed}
use Rattle.fill.specs.Booked.{line_of}
use Rattle.book.specs.Memory.{slots_in}
use Rattle.book.specs.Place.{sum_where}
use Rattle.book.specs.Orders.{fills_of}
use Rattle.note.specs.Notes.{written}
use Rattle.restart.specs.Restart.{Outcome, Again, Unlawful, restart, counts_of, book_after, HasDay}
use Rattle.restart.specs.declared.Counts.{Counts}

-- the contracts of the fills among some slots: the sum of their LastShares
abbrev pub contracts : List Slot → ℕ
contracts ss = sum_where is_fill ss

-- a line for each, the first numbered n; "each line of the listing ends in a line feed"
unfoldable pub lines_from : ℕ → List Slot → List ℕ
lines_from n [] = []
lines_from n (s ∷ ss) = line_of n s ++ lines_from (n + 1) ss

-- "first line, fills waiting and their contracts"; "its first line counts fills alone"
unfoldable pub first_of : ℕ → ℕ → List ℕ
first_of fills sum = bytes_of "waiting " ++ decimal fills ++ bytes_of " contracts " ++ decimal sum ++ line_feed

abbrev pub first_line : List Slot → List ℕ
first_line ss = first_of (fills_of ss) (contracts ss)

-- "else refusal 8 prints only `damaged at P`"
unfoldable pub damaged : ℕ → List ℕ
damaged at = bytes_of "damaged at " ++ decimal at ++ line_feed

-- the fills and entries above the mark, in number order
abbrev pub waiting_page : ℕ → List Slot → List ℕ
waiting_page acked ss = first_line (drop acked ss) ++ lines_from (acked + 1) (drop acked ss)

abbrev pub printed : Outcome → List ℕ
printed (Unlawful at) = damaged at
printed (Again q whole) = waiting_page q.acked q.slots

-- "Over 65,536 bytes it prints only `too long`"
abbrev pub longest_file : ℕ
longest_file = 65536

abbrev pub is_too_long : List ℕ → Bool
is_too_long notes = ltb longest_file (length notes)

abbrev pub too_long : List ℕ
too_long = bytes_of "too long" ++ line_feed

unfoldable pub listing : List ℕ → List ℕ
listing notes = cond (is_too_long notes) too_long (printed (restart notes))

-- the lent book after it: that of the restart, which a file that is too long does not come to
unfoldable pub book_listed : List ℕ → List ℕ → List ℕ
book_listed book notes = cond (is_too_long notes) book (book_after book (restart notes))

-- ---- from a memory, as the code has it

-- the lines of the slots after number `from`, up to the last
abbrev pub lines_in : ℕ → ℕ → List ℕ → List ℕ
lines_in from last book = lines_from (from + 1) (drop from (slots_in last book))

abbrev pub waiting_in : ℕ → ℕ → List ℕ → List ℕ
waiting_in acked last book = waiting_page acked (slots_in last book)

-- what printing the waiting ones answers, and what stands on the page
abbrev pub PrintsWaiting : ℕ → ℕ → List ℕ → List ℕ → ℕ → List ℕ → Type 0
PrintsWaiting acked last book page r page' = (page' ≡ splice page 0 (waiting_in acked last book)) × (r ≡ length (waiting_in acked last book))

-- the line of a file of notes that keeps no day: it is too long, or damaged
abbrev pub said_by : Outcome → List ℕ
said_by (Again q whole) = []
said_by (Unlawful at) = damaged at

unfoldable pub said_of : List ℕ → List ℕ
said_of notes = cond (is_too_long notes) too_long (said_by (restart notes))

-- the day that it keeps; or how long that line is
abbrev pub day_by : ℕ → Outcome → Result Counts ℕ
day_by len (Again q whole) = Ok (counts_of q)
day_by len (Unlawful at) = Err len

unfoldable pub day_of : List ℕ → ℕ → Result Counts ℕ
day_of notes len = cond (is_too_long notes) (Err len) (day_by len (restart notes))

-- a book has the slots and the rows of the day, where there is one
abbrev pub HoldsDay : List ℕ → Result Counts ℕ → List ℕ → Type 0
HoldsDay notes (Ok m) book = HasDay book (restart notes)
HoldsDay notes (Err len) book = Unit

-- what looking for the day answers, and what stands on the page and in the book
abbrev pub FindsDay : List ℕ → List ℕ → List ℕ → Result Counts ℕ → List ℕ → List ℕ → Type 0
FindsDay notes book page r book' page' =
    (r ≡ day_of notes (written page (said_of notes))) × (page' ≡ splice page 0 (said_of notes)) × (book' ≡ book_listed book notes) × HoldsDay notes r book'

-- what printing on a page that has room answers, and what stands on the page and in the book
abbrev pub Prints : List ℕ → List ℕ → List ℕ → ℕ → List ℕ → List ℕ → Type 0
Prints notes book page r book' page' = (page' ≡ splice page 0 (listing notes)) × (r ≡ length (listing notes)) × (book' ≡ book_listed book notes)

-- what the listing answers, and what stands in the book and in the lent bytes
abbrev pub Lists : List ℕ → List ℕ → List ℕ → ℕ → List ℕ → List ℕ → Type 0
Lists notes book out r book' out' = (r ≡ written out (listing notes)) × (out' ≡ splice out 0 (listing notes)) × (book' ≡ book_listed book notes)
