-- "The queue": offer, begin-again, acknowledge and new day, over the marks and the day's slots, with refusals 1, 6 and 7. "Where document 01 says fills of offer, acknowledge, new
-- day .., it means these entries too": fills and entries share the numbers.
use Rattle.std.specs.Prelude.{ℕ, ◌+◌, ◌≡◌, List, Bool, cond, length, drop, leb, ltb, Result, Ok, Err, Some, None, Option as Optional}
use Rattle.std.proofs.Math.Option.{Option, none, some}
use Rattle.octet.specs.Maybe.{first}
use Rattle.octet.specs.Splice.{splice}
use Rattle.answer.specs.Numbers.{counted}
use Rattle.answer.specs.declared.Setup.{Setup}
use Rattle.fill.specs.Slot.{Slot, line_least}
use Rattle.fill.specs.Booked.{line_of}
use Rattle.book.specs.Memory.{slots_in, rows_here, rows_in, laid, between}
use Rattle.book.specs.Rows.{rows_without, day_without}
use Rattle.book.specs.Admitting.{no_load}
use Rattle.book.specs.declared.Load.{Load}
use Rattle.note.specs.Kinds.{note_least}
use Rattle.note.specs.Notes.{Acks, note_bytes}
use Rattle.answer.specs.declared.Refusal.{Refusal}
use Rattle.answer.specs.declared.Refusal.TheVariants as refusal
use Rattle.queue.specs.declared.Marks.{Marks}
use Rattle.queue.specs.declared.Given.{Given}

abbrev pub no_marks : Marks
no_marks = record { last = 0; load = no_load; acked = 0; offered = 0; day = 0 }

-- "After a restart .. offered equals acknowledged"
abbrev pub marks_again : ℕ → Load → ℕ → ℕ → Marks
marks_again last load acked day = record { last = last; load = load; acked = acked; offered = acked; day = day }

-- one number more is given, and what there are then is counted, and what waits
abbrev pub one_more : Load → ℕ → Marks → Marks
one_more load day m = record { last = counted m.last 1; load = load; acked = m.acked; offered = m.offered; day = day }

abbrev pub offered_up_to : ℕ → Marks → Marks
offered_up_to n m = record { last = m.last; load = m.load; acked = m.acked; offered = n; day = m.day }

abbrev pub acked_up_to : ℕ → ℕ → Marks → Marks
acked_up_to n day m = record { last = m.last; load = m.load; acked = n; offered = m.offered; day = day }

-- "1: .. note buffer under 102, or line buffer under 128 bytes"
abbrev pub short_line : Setup → ℕ → Bool
short_line setup len = ltb len (line_least setup)

abbrev pub short_note : Setup → ℕ → Bool
short_note setup len = ltb len (note_least setup)

-- ---- "Offer writes the fill after the last offered one as its line of the listing below, with a line feed, or, only where there is no such fill, says none"

abbrev pub next_offer : ℕ → List Slot → Option Slot
next_offer offered ss = first (drop offered ss)

-- what an offer answers: the marks after it and how long the line is; that there is no such slot (Ok None); or a refusal
abbrev pub Offer : Type 0
Offer = Result (Optional Given) Refusal

abbrev pub gives : Marks → ℕ → Offer
gives m len = Ok (Some (record { marks = m; len = len }))

abbrev pub given_line : Marks → Option Slot → Offer
given_line m none = Ok None
given_line m (some s) = gives (offered_up_to (m.offered + 1) m) (length (line_of (m.offered + 1) s))

unfoldable pub offered : Setup → Marks → List Slot → ℕ → Offer
offered setup m ss len = cond (short_line setup len) (Err refusal.ShortBuffer) (given_line m (next_offer m.offered ss))

abbrev pub written_line : List ℕ → Marks → Option Slot → List ℕ
written_line line m none = line
written_line line m (some s) = splice line 0 (line_of (m.offered + 1) s)

unfoldable pub line_after : Setup → Marks → List Slot → List ℕ → List ℕ
line_after setup m ss line = cond (short_line setup (length line)) line (written_line line m (next_offer m.offered ss))

-- what is answered, and what stands in the line
abbrev pub Offers : Setup → Marks → List ℕ → List ℕ → Offer → List ℕ → Type 0
Offers setup m book line r line' =
    (r ≡ offered setup m (slots_in m.last book) (length line)) × (line' ≡ line_after setup m (slots_in m.last book) line)

-- ---- "Begin-again sets the offered mark back to the acknowledged one"

abbrev pub begun_again : Marks → Marks
begun_again m = offered_up_to m.acked m

-- ---- "Acknowledge n takes all fills up to n; n at or below the mark is already, no change"; refusal 6: "acknowledge above the offered mark"

-- what an acknowledge answers: the marks after it; already (Ok None); or a refusal
abbrev pub Acknowledged : Type 0
Acknowledged = Result (Optional Marks) Refusal

-- the slots that it acknowledges: those after the mark
abbrev pub taken_by : Marks → ℕ → List Slot → List Slot
taken_by m n ss = between m.acked n ss

unfoldable pub acknowledged_by : Setup → Marks → List Slot → ℕ → ℕ → Acknowledged
acknowledged_by setup m ss n len =
    cond (short_note setup len) (Err refusal.ShortBuffer)
    (cond (ltb m.offered n) (Err refusal.NotOffered)
    (cond (leb n m.acked) (Ok None) (Ok (Some (acked_up_to n (day_without m.day (taken_by m n ss)) m)))))

abbrev pub noted_by : List ℕ → ℕ → Acknowledged → List ℕ
noted_by note n (Ok (Some m)) = splice note 0 (note_bytes (Acks n))
noted_by note n (Ok None) = note
noted_by note n (Err why) = note

unfoldable pub note_after : Setup → Marks → List Slot → ℕ → List ℕ → List ℕ
note_after setup m ss n note = noted_by note n (acknowledged_by setup m ss n (length note))

-- the slots stay in the book; what they have is taken off the rows
abbrev pub taken_off : Marks → ℕ → List ℕ → List ℕ
taken_off m n book = laid rows_here book (rows_without (slots_in m.last book) (rows_in m.load.orders book) (taken_by m n (slots_in m.last book)))

abbrev pub booked_by : Marks → ℕ → List ℕ → Acknowledged → List ℕ
booked_by m n book (Ok (Some next)) = taken_off m n book
booked_by m n book (Ok None) = book
booked_by m n book (Err why) = book

unfoldable pub book_after : Setup → Marks → ℕ → List ℕ → ℕ → List ℕ
book_after setup m n book len = booked_by m n book (acknowledged_by setup m (slots_in m.last book) n len)

-- what is answered, and what stands in the book and in the note
abbrev pub Acknowledges : Setup → Marks → ℕ → List ℕ → List ℕ → Acknowledged → List ℕ → List ℕ → Type 0
Acknowledges setup m n book note r book' note' =
    (r ≡ acknowledged_by setup m (slots_in m.last book) n (length note))
    × (book' ≡ book_after setup m n book (length note))
    × (note' ≡ note_after setup m (slots_in m.last book) n note)

-- ---- "New day (phase 0 or 3, nothing waiting) gives the fresh, empty state"; refusal 7: "new day with fills waiting"

unfoldable pub new_day : Marks → Result Marks Refusal
new_day m = cond (ltb m.acked m.last) (Err refusal.StillWaiting) (Ok no_marks)
