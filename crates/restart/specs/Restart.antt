-- "A restart reads whole notes, drops a part at the end, and says how many bytes are whole."
use Rattle.std.specs.Prelude.{ℕ, zero, suc, ◌+◌, ◌≡◌, List, cond, length, drop, Result, Ok, Err}
use Rattle.std.proofs.Math.Option.{Option, none, some}
use Rattle.book.specs.Memory.{slots_in, rows_in, holding}
use Rattle.book.specs.declared.Load.{Load}
use Rattle.note.specs.Notes.{Reading, Whole, Part, Unknown, read_note}
use Rattle.note.specs.Kept.{Kept, empty, lawful, after}
use Rattle.answer.specs.declared.Refusal.{Refusal}
use Rattle.answer.specs.declared.Refusal.TheVariants as refusal
use Rattle.restart.specs.declared.Counts.{Counts}
use Rattle.restart.specs.declared.Restarted.{Restarted}

-- what is kept, and how many bytes are whole; or "unlawful note, with its first byte's place, from 0"
pub data Outcome : Type 0 where
  Again : Kept → ℕ → Outcome
  Unlawful : ℕ → Outcome

abbrev pub by_read : Kept → ℕ → (Kept → ℕ → Outcome) → Reading → Outcome
by_read q at go Part = Again q at
by_read q at go Unknown = Unlawful at
by_read q at go (Whole note n) = cond (lawful q note) (go (after q note) n) (Unlawful at)

-- at most `most` notes of s, whose first byte is at place `at`
unfoldable pub run : ℕ → Kept → ℕ → List ℕ → Outcome
run zero q at s = Again q at
run (suc most) q at s = by_read q at (λ (r : Kept) (n : ℕ). run most r (at + n) (drop n s)) (read_note s)

-- all notes: a note has at least one byte
unfoldable pub restart : List ℕ → Outcome
restart notes = run (length notes) empty 0 notes

-- ---- the code's answer, with the slots and the rows in the lent book: "Lent bytes past what is written stay"

abbrev pub counts_of : Kept → Counts
counts_of q = record {
  e = q.e;
  o = q.o;
  last = length q.slots;
  fills = q.load.fills;
  orders = q.load.orders;
  entries = q.load.entries;
  acked = q.acked;
  day = q.day;
}

-- the load that they count
abbrev pub load_in : Counts → Load
load_in m = record { fills = m.fills; orders = m.orders; entries = m.entries }

-- what is kept and how many bytes are whole, as it is answered
abbrev pub tells : Counts → ℕ → Result Restarted ℕ
tells counts whole = Ok (record { counts = counts; whole = whole })

abbrev pub told : Outcome → Result Restarted ℕ
told (Again q whole) = tells (counts_of q) whole
told (Unlawful at) = Err at

-- what is told of it: "8: unlawful note, with its first byte's place, from 0", or how many bytes are whole
abbrev pub refused_by : Result Restarted ℕ → Option Refusal
refused_by (Ok again) = none
refused_by (Err at) = some (refusal.Unlawful at)

abbrev pub whole_in : Result Restarted ℕ → ℕ
whole_in (Ok again) = again.whole
whole_in (Err at) = 0

-- the book after it: only the used slots and rows are written; "Nothing changes" where it is refused
abbrev pub book_after : List ℕ → Outcome → List ℕ
book_after book (Again q whole) = holding book q.slots q.rows
book_after book (Unlawful at) = book

-- a memory has the slots and the rows of what a restart gives
abbrev pub HasDay : List ℕ → Outcome → Type 0
HasDay mem (Again q whole) = (slots_in (length q.slots) mem ≡ q.slots) × (rows_in (length q.rows) mem ≡ q.rows)
HasDay mem (Unlawful at) = Unit

-- what a restart answers and leaves in the lent book
abbrev pub Restarts : List ℕ → Outcome → Result Restarted ℕ → List ℕ → Type 0
Restarts book o r book' = (r ≡ told o) × (book' ≡ book_after book o) × HasDay book' o
