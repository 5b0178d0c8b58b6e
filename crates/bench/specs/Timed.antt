-- What is timed: a receiver that is on, given by its numbers, and what a caller in C is told of a call, as numbers.
use Rattle.std.specs.Prelude.{ℕ, ◌+◌, ◌*◌, ◌%◌, ◌≡◌, List, ◌++◌, length, drop, map, Ok, Err, Some}
use Rattle.std.proofs.Math.Option.{Option, none, some}
use Rattle.answer.specs.declared.Setup.{Setup}
use Rattle.answer.specs.declared.Phase.TheVariants.{In}
use Rattle.answer.specs.Numbers.{outcome_number, counted}
use Rattle.answer.specs.declared.Outcome.{Outcome}
use Rattle.field.specs.Pieces.{Scan, pieces_of, scan_of}
use Rattle.field.specs.Index.{index_of}
use Rattle.field.specs.declared.Column.{Column}
use Rattle.field.specs.declared.Unsound.TheVariants.{Malformed, Empty}
use Rattle.frame.specs.declared.Found.{Found}
use Rattle.frame.specs.declared.Found.TheVariants.{More, Garbled, Framed}
use Rattle.session.specs.declared.Verdict.{Verdict}
use Rattle.session.specs.declared.Verdict.TheVariants.{Settled, Report, Correction}
use Rattle.book.specs.declared.Load.{Load}
use Rattle.book.specs.declared.Admitted.{Admitted}
use Rattle.book.specs.declared.Admitted.TheVariants as admitted
use Rattle.queue.specs.declared.Marks.{Marks}
use Rattle.page.specs.Page.{Paged, due_of, page_of, told_of as page_told_of}
use Rattle.page.specs.declared.OrderRow.{OrderRow}
use Rattle.receiver.specs.Receiver.{does, Message, Acknowledge}
use Rattle.receiver.specs.Steps.{lent_to, lent_line}
use Rattle.receiver.specs.State.{Did, seen, told_of, book_after, reply_after, note_after}
use Rattle.receiver.specs.declared.State.{State as Stored}
use Rattle.receiver.specs.declared.Told.{Told}
use Rattle.receiver.specs.Answers.{tells_of}
use Rattle.receiver.specs.declared.Answer.{Answer}

-- the agreed IDs: 16 bytes each, of which so many count
abbrev pub agreed : List ℕ → ℕ → List ℕ → ℕ → Setup
agreed ours n theirs k = record { ours = record { bytes = ours; len = n }; theirs = record { bytes = theirs; len = k } }

abbrev pub load_of : ℕ → ℕ → ℕ → Load
load_of fills orders entries = record { fills = fills; orders = orders; entries = entries }

-- phase 2, E as given, nothing written yet, no Resend Request either: asked is the 0 that C's receivers begin with, also where E is 0;
-- so many fills of one contract each, of so many orders, and entries, none acknowledged and so many offered
abbrev pub online : ℕ → Load → ℕ → Stored
online e load offered = record {
  session = record { phase = In; e = e; o = 1; asked = Some 0 };
  marks = record { last = counted load.fills load.entries; load = load; acked = 0; offered = offered; day = load.fills };
}

-- the number of what became of a framed message; 0 for every other answer
abbrev pub number_where : Option Outcome → ℕ
number_where none = 0
number_where (some o) = outcome_number o

abbrev pub became_number : Answer → ℕ
became_number a = number_where (tells_of a).became

-- that number, the length of the reply and that of the note, in one word: each length takes 12 bits of it
unfoldable pub word_of : Told → ℕ
word_of t = (became_number t.answer * 4096 + t.reply % 4096) * 4096 + t.note % 4096

-- such a call tells r of what it does, d, and leaves what it is lent so
pub record Timed (d : Did) (r : ℕ) (book book' reply reply' note note' : List ℕ) : Type 0 where
  pub told : r ≡ word_of (told_of d)
  pub booked : book' ≡ book_after book d
  pub replied : reply' ≡ reply_after reply d
  pub noted : note' ≡ note_after note d

-- the message call
abbrev pub TimedMessage : Setup → Stored → List ℕ → List ℕ → ℕ → List ℕ → List ℕ → List ℕ → List ℕ → List ℕ → List ℕ → Type 0
TimedMessage setup st time bytes r book book' reply reply' note note' =
    Timed (does setup (seen st book) (lent_to (length reply) (length note)) (Message time bytes)) r book book' reply reply' note note'

-- an acknowledgement up to n: what it is told of it, and what it leaves in the book and the note
pub record TimedFiled (d : Did) (r : ℕ) (book book' note note' : List ℕ) : Type 0 where
  pub told : r ≡ word_of (told_of d)
  pub booked : book' ≡ book_after book d
  pub noted : note' ≡ note_after note d

abbrev pub TimedAcknowledge : Setup → Stored → ℕ → ℕ → List ℕ → List ℕ → List ℕ → List ℕ → Type 0
TimedAcknowledge setup st n r book book' note note' = TimedFiled (does setup (seen st book) (lent_line 0 (length note) 0) (Acknowledge n)) r book book' note note'

-- what a page answers: the orders above the low 32 bits, and the day's sum in these; 0 where it is refused
abbrev pub page_word : Paged → ℕ
page_word (Ok shown) = shown.orders * 4294967296 + shown.day
page_word (Err why) = 0

-- the totals page: its word, and the rows after it
abbrev pub TimedPage : Marks → List ℕ → List OrderRow → ℕ → List OrderRow → Type 0
TimedPage marks book rows r rows' =
    (r ≡ page_word (page_told_of marks (length rows))) × (rows' ≡ page_of marks book (due_of marks (length rows)) ++ drop (due_of marks (length rows)) rows)

-- the length of the message at the front, 0 where there is none
abbrev pub length_of : Found → ℕ
length_of More = 0
length_of (Garbled skip) = 0
length_of (Framed len) = len

-- the first fault of the pieces of a body: none, a piece that is no field, or a field without a value
abbrev pub scan_number : Scan → ℕ
scan_number (Ok sound) = 0
scan_number (Err Malformed) = 1
scan_number (Err (Empty tag)) = 2

-- an index as C lends it: of each tag where the value of its first field stands, then of each how long that is, then of each how often the tag stands
abbrev pub cells_of : List Column → List ℕ
cells_of x = map (λ (c : Column). c.start) x ++ (map (λ (c : Column). c.len) x ++ map (λ (c : Column). c.count) x)

-- the index of a body: its fault as a number, and the list as it is lent
pub record Indexed (body : List ℕ) (r : ℕ) (index : List ℕ) : Type 0 where
  pub fault : r ≡ scan_number (scan_of (pieces_of body))
  pub listed : index ≡ cells_of (index_of body)

-- what the session says of a message: the number of what became of it, or 14 and 15 where it is a report or a correction about which the book is to be asked
abbrev pub verdict_number : Verdict → ℕ
verdict_number (Settled j) = outcome_number j.outcome
verdict_number (Report n) = 14
verdict_number (Correction n) = 15

-- what becomes of a fill or an entry among the day's: the place of the answer among all of them, from 1
abbrev pub admitted_number : Admitted → ℕ
admitted_number (admitted.Clash f) = 1
admitted_number admitted.Already = 2
admitted_number admitted.Full = 3
admitted_number (admitted.New booking) = 4
