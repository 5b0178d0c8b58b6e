-- THE SECOND DEMAND: a good report is booked, and a good correction entered. Which message that is, in the paper's words, and what exactly is then done.
use Rattle.std.specs.Prelude.{ℕ, ◌+◌, ◌≤◌, ◌≡◌, List, [], ◌∷◌, ◌++◌, true, length}
use Rattle.std.proofs.Math.Option.{none, some}
use Rattle.value.specs.Value.{is_time}
use Rattle.frame.specs.Finding.{found_in, body_in}
use Rattle.frame.specs.declared.Found.TheVariants as found
use Rattle.field.specs.Pieces.{Pieces, pieces_of, first_of}
use Rattle.table.specs.Rows.{kind_in}
use Rattle.table.specs.Steps.{fault_in}
use Rattle.answer.specs.Numbers.{inside, counted}
use Rattle.answer.specs.declared.Setup.{Setup}
use Rattle.answer.specs.declared.Kind.{Kind}
use Rattle.answer.specs.declared.Kind.TheVariants as kind
use Rattle.answer.specs.declared.Outcome.{Outcome}
use Rattle.answer.specs.declared.Outcome.TheVariants.{Booked, Entered}
use Rattle.fill.specs.Slot.{Slot, shares_of}
use Rattle.book.specs.Rows.{Row, is_known, more_of}
use Rattle.book.specs.Admitting.{place, has_room, in_step, with_fill, with_entry}
use Rattle.book.specs.declared.Load.{Load}
use Rattle.book.specs.declared.Placed.TheVariants as placed
use Rattle.note.specs.Notes.{Books}
use Rattle.note.specs.Kept.{Kept}
use Rattle.report.specs.Report.{report_in, slot_in, rule_fault}
use Rattle.report.specs.Correction.{entry_in}
use Rattle.report.specs.Carried.{Carries, Enters}
use Rattle.session.specs.Reading.{seq_given, ids_given}
use Rattle.tally.specs.Tally.{count_of, tallied}
use Rattle.tally.specs.declared.Tally.{Tally}
use Rattle.receiver.specs.State.{State}
use Rattle.receiver.specs.Receiver.{Message, Lent, Result, call}
use Rattle.receiver.specs.declared.Answer.TheVariants.{Framed}

-- a faultless message of that type in its turn
pub record InTurn (setup : Setup) (st : State) (ps : Pieces) (k : Kind) : Type 0 where
  -- phase 2 or 4
  pub phase : inside st.phase ≡ true
  -- steps 1, 2 and 4: it is numbered E, and between the agreed parties
  pub number : seq_given (first_of 34 ps) ≡ some st.kept.e
  pub parties : ids_given setup (first_of 49 ps) (first_of 56 ps) ≡ none
  -- steps 5 to 7, and its type
  pub faultless : fault_in setup st.phase st.kept.o ps ≡ none
  pub type : kind_in setup ps ≡ k

-- it keeps the four rules, has no 442, and among the day's fills its ExecID is new and its order, where known, has the same symbol and side
pub record Fresh (st : State) (ps : Pieces) : Type 0 where
  pub rules : rule_fault (report_in ps) ≡ none
  pub aside : first_of 442 ps ≡ none
  pub new : place st.kept.slots st.kept.rows (slot_in ps) ≡ placed.New

-- the bytes s begin with a framed message of len bytes, a report that is booked if there is room
pub record Bookable (setup : Setup) (st : State) (s : List ℕ) (len : ℕ) : Type 0 where
  pub framed : found_in s ≡ found.Framed len
  pub turn : InTurn setup st (pieces_of (body_in len s)) kind.Report
  pub fresh : Fresh st (pieces_of (body_in len s))

-- a correction that is entered if there is room: no entry of the day has its key
pub record Enterable (setup : Setup) (st : State) (s : List ℕ) (len : ℕ) : Type 0 where
  pub framed : found_in s ≡ found.Framed len
  pub turn : InTurn setup st (pieces_of (body_in len s)) kind.Correction
  pub new : place st.kept.slots st.kept.rows (entry_in (pieces_of (body_in len s))) ≡ placed.New

-- either of them, and the slot that it brings
pub data Bringing (setup : Setup) (st : State) (s : List ℕ) (len : ℕ) : Slot → Type 0 where
  A-fill : Bookable setup st s len → Bringing setup st s len (slot_in (pieces_of (body_in len s)))
  An-entry : Enterable setup st s len → Bringing setup st s len (entry_in (pieces_of (body_in len s)))

-- refusals 1, 2 and 4 do not meet a message call; 3 cannot in phase 2 or 4
pub record Unmet (st : State) (b : Lent) (time : List ℕ) : Type 0 where
  pub reply : 512 ≤ b.reply
  pub note : 102 ≤ b.note
  pub long : length time ≡ 21
  pub utc : is_time time ≡ true
  pub numbers : st.kept.o ≤ 999999997

-- what is then done: "Then it is booked and numbered from 1"; E rises by 1, O stays, the slot is the last of the day's, nothing is written but the note F or C
abbrev pub booked_result : State → Tally → ℕ → Slot → List Row → Load → ℕ → Outcome → Result
booked_result st t len f rows load day o = record {
  did = record {
    answer = Framed len o;
    next = record {
      phase = st.phase;
      asked = st.asked;
      offered = st.offered;
      kept = record {
        e = st.kept.e + 1;
        o = st.kept.o;
        slots = st.kept.slots ++ (f ∷ []);
        rows = rows;
        load = load;
        acked = st.kept.acked;
        day = day;
      };
    };
    reply = [];
    note = some (Books (st.kept.e + 1) st.kept.o f);
    line = [];
  };
  tally = tallied (count_of o) t;
}

-- a fill, and whether it is in step: its contracts wait, in its order's row and for the day; an entry, of which no order knows
abbrev pub filled_result : State → Tally → ℕ → Slot → Result
filled_result st t len f =
    let q : Kept = st.kept in
    booked_result st t len f (more_of q.slots q.rows f) (with_fill (is_known q.slots q.rows f) q.load f) (counted q.day (shares_of f))
    (Booked (length q.slots + 1) (in_step q.slots q.rows f))

abbrev pub entered_result : State → Tally → ℕ → Slot → Result
entered_result st t len e =
    booked_result st t len e st.kept.rows (with_entry st.kept.load) st.kept.day (Entered (length st.kept.slots + 1))

-- any such message, in any such state, at any such time, where there is room
pub record Demand2 (setup : Setup) (st : State) (b : Lent) (t : Tally) (time s : List ℕ) (len : ℕ) : Type 0 where
  pub booked : Bookable setup st s len → has_room st.kept.slots st.kept.rows st.kept.load (slot_in (pieces_of (body_in len s))) ≡ true → Unmet st b time
      → call setup st b t (Message time s) ≡ filled_result st t len (slot_in (pieces_of (body_in len s)))
  pub carries : Bookable setup st s len → Carries (pieces_of (body_in len s)) (slot_in (pieces_of (body_in len s)))
  pub entered : Enterable setup st s len → has_room st.kept.slots st.kept.rows st.kept.load (entry_in (pieces_of (body_in len s))) ≡ true → Unmet st b time
      → call setup st b t (Message time s) ≡ entered_result st t len (entry_in (pieces_of (body_in len s)))
  pub enters : Enterable setup st s len → Enters (pieces_of (body_in len s)) (entry_in (pieces_of (body_in len s)))
