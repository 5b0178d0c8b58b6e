-- Request C-12, "A fill that crossed a cancel": the second demand for its report, all that the request moved of the receiver, that 39=8 stays refused, and
-- that the restart is the function that it was.
use Rattle.std.specs.Prelude.{ℕ, ◌+◌, ◌≤◌, ◌≡◌, List, ◌↔◌, true, false, cond, eqb}
use Rattle.std.proofs.Math.Option.{Option, none}
use Rattle.octet.specs.Bytes.{bytes_of, between, is}
use Rattle.octet.specs.Maybe.{is_none}
use Rattle.frame.specs.Finding.{found_in, body_in}
use Rattle.frame.specs.declared.Found.{Found}
use Rattle.frame.specs.declared.Found.TheVariants as found
use Rattle.field.specs.Pieces.{Pieces, pieces_of, first_of, text_at}
use Rattle.field.specs.Look.{Look, look_of}
use Rattle.table.specs.Rows.{kind_in}
use Rattle.table.specs.Steps.{number_at}
use Rattle.answer.specs.Numbers.{fault, wrong_value}
use Rattle.answer.specs.declared.Setup.{Setup}
use Rattle.answer.specs.declared.Phase.{Phase}
use Rattle.answer.specs.declared.Fault.{Fault}
use Rattle.answer.specs.declared.Kind.TheVariants as kind
use Rattle.answer.specs.declared.Outcome.TheVariants as outcome
use Rattle.fill.specs.Slot.{Slot}
use Rattle.book.specs.Admitting.{place, has_room}
use Rattle.book.specs.declared.Placed.TheVariants as placed
use Rattle.note.specs.Notes.{Books}
use Rattle.note.specs.Kept.{Kept, lawful}
use Rattle.report.specs.Report.{Report as Values, is_crossed, rule_fault, is_aside, after_rules, report_of, slot_in}
use Rattle.report.specs.Crossed.{former_fault}
use Rattle.report.specs.Noted.{Tells}
use Rattle.report.specs.Correction.{entry_for}
use Rattle.session.specs.Judging.{judge, rejected, passed}
use Rattle.session.specs.declared.Session.{Session}
use Rattle.session.specs.declared.Verdict.{Verdict}
use Rattle.session.specs.declared.Verdict.TheVariants.{Settled, Report, Correction}
use Rattle.tally.specs.declared.Tally.{Tally}
use Rattle.receiver.specs.State.{State, Did, quiet, session_of}
use Rattle.receiver.specs.Calls.{Brings, Nothing, This, of_report, brings_of, becomes, carried_out}
use Rattle.receiver.specs.Receiver.{Message, Lent, refusal_of, unless-refused, does, call}
use Rattle.receiver.specs.declared.Answer.TheVariants.{More, Garbled}
use Rattle.promise.specs.Demand2.{InTurn, Unmet, filled_result}

-- ---- the second demand

-- "39=4, 150=1, 151=0", and 14 between 32's and 38's
pub record CrossedWell (ps : Pieces) : Type 0 where
  pub status : text_at 39 ps ≡ bytes_of "4"
  pub exec_type : text_at 150 ps ≡ bytes_of "1"
  pub leaves : number_at 151 ps ≡ 0
  pub shares-cum : number_at 32 ps ≤ number_at 14 ps
  pub cum-quantity : number_at 14 ps ≤ number_at 38 ps

-- the bytes s begin with such a report of len bytes, on a single order, faultless by the table and in its turn, whose fill is new
pub record CrossedBookable (setup : Setup) (st : State) (s : List ℕ) (len : ℕ) : Type 0 where
  pub framed : found_in s ≡ found.Framed len
  pub turn : InTurn setup st (pieces_of (body_in len s)) kind.Report
  pub crossed : CrossedWell (pieces_of (body_in len s))
  pub alone : first_of 442 (pieces_of (body_in len s)) ≡ none
  pub new : place st.kept.slots st.kept.rows (slot_in (pieces_of (body_in len s))) ≡ placed.New

-- any such report, in any such state, at any such time, is booked where there is room
abbrev pub CrossedBooked : Setup → State → Lent → Tally → List ℕ → List ℕ → ℕ → Type 0
CrossedBooked setup st b t time s len =
    CrossedBookable setup st s len → has_room st.kept.slots st.kept.rows st.kept.load (slot_in (pieces_of (body_in len s))) ≡ true → Unmet st b time
    → call setup st b t (Message time s) ≡ filled_result st t len (slot_in (pieces_of (body_in len s)))

-- ---- all that it moved

-- what a message brought by document 01's four rules
abbrev pub former_by : Session → Look → Verdict → Brings
former_by s look (Settled j) = Nothing j
former_by s look (Report n) = of_report s look n (after_rules (is_aside look) (former_fault (report_of look)))
former_by s look (Correction n) = This n (entry_for look)

abbrev pub former_brings : Setup → State → Pieces → Brings
former_brings setup st ps = former_by (session_of st) (look_of ps) (judge setup (session_of st) ps)

-- rejected with reason 5 and a tag
abbrev pub rejects : State → ℕ → Brings
rejects st tag = Nothing (rejected (session_of st) st.kept.e (fault wrong_value tag))

-- what a report brings that crossed a cancel: rejected where 14 is not between 32's and 38's, else where 151 is not 0; set aside where it has 442; else its fill
abbrev pub crossed_brings : State → Pieces → Brings
crossed_brings st ps =
    cond (between (number_at 32 ps) (number_at 38 ps) (number_at 14 ps))
    (cond (eqb (number_at 151 ps) 0)
    (cond (is_none (first_of 442 ps)) (This st.kept.e (slot_in ps)) (Nothing (passed outcome.Aside (session_of st))))
    (rejects st 151))
    (rejects st 14)

-- a message call looks at the rules only through what messages bring: by that it is this function
abbrev pub found_by : (Pieces → Brings) → Setup → State → List ℕ → List ℕ → Found → Did
found_by brings setup st time s found.More = quiet More st
found_by brings setup st time s (found.Garbled skip) = quiet (Garbled skip) st
found_by brings setup st time s (found.Framed len) = let ps = pieces_of (body_in len s) in carried_out setup st time len ps (becomes st (brings ps))

abbrev pub does_by : (Pieces → Brings) → Setup → State → Lent → List ℕ → List ℕ → Did
does_by brings setup st b time s = unless-refused st (refusal_of setup st b (Message time s)) (found_by brings setup st time s (found_in s))

-- so the call of now is that of what messages bring now; that of before is the same of what they brought. No other call is given a message
abbrev pub CalledBy : Setup → State → Lent → List ℕ → List ℕ → Type 0
CalledBy setup st b time s = does setup st b (Message time s) ≡ does_by (brings_of setup st) setup st b time s

-- and this is where the two differ
pub record Moved (setup : Setup) (st : State) (ps : Pieces) : Type 0 where
  -- a message that is no faultless report in its turn, or did not cross, brings what it brought
  pub elsewhere : ¬ InTurn setup st ps kind.Report → brings_of setup st ps ≡ former_brings setup st ps
  pub uncrossed : is_crossed (text_at 150 ps) (text_at 39 ps) ≡ false → brings_of setup st ps ≡ former_brings setup st ps
  -- one that did was rejected, whatever it said; and now
  pub before : InTurn setup st ps kind.Report → is_crossed (text_at 150 ps) (text_at 39 ps) ≡ true
      → (f : Fault) × (former_brings setup st ps ≡ Nothing (rejected (session_of st) st.kept.e f))
  pub now : InTurn setup st ps kind.Report → is_crossed (text_at 150 ps) (text_at 39 ps) ≡ true → brings_of setup st ps ≡ crossed_brings st ps

-- ---- "39=8 stays refused"

-- whatever the state, the time, the buffers and the rest of it: a report whose 39 is neither 1, 2 nor 4 adds nothing to the day's slots; so one with 39=8
pub record StaysRefused (setup : Setup) (st : State) (b : Lent) (t : Tally) (time s : List ℕ) (len : ℕ) : Type 0 where
  pub only : found_in s ≡ found.Framed len → kind_in setup (pieces_of (body_in len s)) ≡ kind.Report → is "1" (text_at 39 (pieces_of (body_in len s))) ≡ false
      → is "2" (text_at 39 (pieces_of (body_in len s))) ≡ false → is "4" (text_at 39 (pieces_of (body_in len s))) ≡ false
      → (call setup st b t (Message time s)).did.next.kept.slots ≡ st.kept.slots
  pub eight : found_in s ≡ found.Framed len → kind_in setup (pieces_of (body_in len s)) ≡ kind.Report → text_at 39 (pieces_of (body_in len s)) ≡ bytes_of "8"
      → (call setup st b t (Message time s)).did.next.kept.slots ≡ st.kept.slots

-- ---- the restart

-- "F has E one up within that, O the same, and a report that would be booked": one that keeps such rules, whose fill is new, and for which there is room
pub record WouldBook (rules : Values → Option Fault) (setup : Setup) (phase : Phase) (q : Kept) (e o : ℕ) (s : Slot) : Type 0 where
  pub one_up : e ≡ q.e + 1
  pub within : e ≤ 999999999
  pub sent : o ≡ q.o
  pub told : Tells rules setup phase o s
  pub new : place q.slots q.rows s ≡ placed.New
  pub room : has_room q.slots q.rows q.load s ≡ true

-- a restart takes a note of a fill exactly where that is so, by the rules of now and by document 01's: the request left it the function that it was
pub record SameRestart (setup : Setup) (phase : Phase) (q : Kept) (e o : ℕ) (s : Slot) : Type 0 where
  pub now : (lawful q (Books e o s) ≡ true) ↔ WouldBook rule_fault setup phase q e o s
  pub before : (lawful q (Books e o s) ≡ true) ↔ WouldBook former_fault setup phase q e o s
