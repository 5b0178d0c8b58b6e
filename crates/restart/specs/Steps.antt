-- One note, as a restart takes it: the counts by value, the slots and the rows in memory, and what each is after the note.
use Rattle.std.specs.Prelude.{ℕ, ◌+◌, List, [], Bool, cond, ◌&&◌, ◌||◌, ◌≡◌, length, leb, ltb, eqb, Result}
use Rattle.answer.specs.Numbers.{nine_digits}
use Rattle.book.specs.Rows.{row_to, rows_without}
use Rattle.book.specs.Memory.{book_width, slots_in, rows_here, rows_in, laid, entered, between}
use Rattle.note.specs.Notes.{Note, Raises, Books, Acks, Clears, Reading, Whole, Part, Unknown}
use Rattle.note.specs.Kept.{Kept, lawful, after}
use Rattle.restart.specs.Restart.{Outcome, counts_of, load_in, told, HasDay}
use Rattle.restart.specs.declared.Counts.{Counts}
use Rattle.restart.specs.declared.Restarted.{Restarted}
use Rattle.restart.specs.declared.Step.{Step}
use Rattle.restart.specs.declared.Step.TheVariants as step

-- what is kept, from the counts and the memory that has the slots and the rows
abbrev pub kept_in : Counts → List ℕ → Kept
kept_in m mem = record {
  e = m.e;
  o = m.o;
  slots = slots_in m.last mem;
  rows = rows_in m.orders mem;
  load = load_in m;
  acked = m.acked;
  day = m.day;
}

-- S and D are judged by the counts alone: any memory does
abbrev pub bare : Counts → Kept
bare m = kept_in m []

-- "S raises E or O"
abbrev pub raised : Counts → ℕ → ℕ → Bool
raised m e o = ltb m.e e || ltb m.o o

-- "F has E one up within that, O the same", and so has C
abbrev pub is_next : Counts → ℕ → ℕ → Bool
is_next m e o = eqb e (m.e + 1) && leb e nine_digits && eqb o m.o

unfoldable pub step_note : Kept → Note → Step
step_note q note = cond (lawful q note) (step.On (counts_of (after q note))) step.Bad

abbrev pub step_read : Kept → Reading → Step
step_read q (Whole note n) = step_note q note
step_read q Part = step.End
step_read q Unknown = step.Bad

-- the memory after it: one slot more where a fill or an entry is booked, with the fill's contracts in its order's row; and what waits in the rows after an acknowledge
unfoldable pub mem_note : List ℕ → Kept → Note → List ℕ
mem_note mem q (Raises e o) = mem
mem_note mem q (Books e o s) =
    cond (lawful q (Books e o s)) (entered mem (length q.slots) q.load.orders (row_to q.slots q.rows s) s) mem
mem_note mem q (Acks n) = cond (lawful q (Acks n)) (laid rows_here mem (rows_without q.slots q.rows (between q.acked n q.slots))) mem
mem_note mem q Clears = mem

abbrev pub mem_read : List ℕ → Kept → Reading → List ℕ
mem_read mem q (Whole note n) = mem_note mem q note
mem_read mem q Part = mem
mem_read mem q Unknown = mem

-- a step, and the memory after it: of a note, and of what is read
abbrev pub Takes : List ℕ → Kept → Note → Step → List ℕ → Type 0
Takes mem q note r mem' = (r ≡ step_note q note) × (mem' ≡ mem_note mem q note)

abbrev pub Steps : List ℕ → Kept → Reading → Step → List ℕ → Type 0
Steps mem q reading r mem' = (r ≡ step_read q reading) × (mem' ≡ mem_read mem q reading)

-- the notes one by one, their slots and rows into a memory
abbrev pub Replays : Outcome → Result Restarted ℕ → List ℕ → Type 0
Replays o r mem' = (r ≡ told o) × HasDay mem' o × (length mem' ≡ book_width)
