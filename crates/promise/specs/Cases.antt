-- "Worked by hand (P is proved)": the paper's cases, as one table under one statement; and a table of places of request C-14.
use Rattle.std.specs.Prelude.{ℕ, ◌≡◌, List, [], ◌∷◌, ◌++◌, Bool, true, false, cond, length, None}
use Prim.Native.String.{String}
use Rattle.std.proofs.Math.Option.{Option, none, some}
use Rattle.octet.specs.Bytes.{bytes_of}
use Rattle.frame.specs.Finding.{found_in}
use Rattle.frame.specs.declared.Found.{Found}
use Rattle.frame.specs.declared.Found.TheVariants.{Garbled, Framed}
use Rattle.value.specs.Value.{is_day, number_on}
use Rattle.value.specs.Readers.{price_read, price_reason, price_values, time_checked, check_reason}
use Rattle.field.specs.Pieces.{pieces_of}
use Rattle.table.specs.Steps.{bad_form}
use Rattle.table.specs.declared.Form.{Form}
use Rattle.table.specs.declared.Form.TheVariants.{Number, Price, Time, Graph}
use Rattle.table.specs.declared.Range.TheVariants.{Any}
use Rattle.answer.specs.Numbers.{fault, phase_number}
use Rattle.answer.specs.Setup.{id_with}
use Rattle.answer.specs.declared.Setup.{Setup}
use Rattle.answer.specs.declared.Fault.{Fault}
use Rattle.answer.specs.declared.Phase.TheVariants.{In}
use Rattle.answer.specs.declared.Outcome.{Outcome}
use Rattle.answer.specs.declared.Outcome.TheVariants.{Heard, Gap, Dropped, Ended, Filled, Rejected}
use Rattle.receiver.specs.State.{State, Did}
use Rattle.receiver.specs.Receiver.{Message, does}
use Rattle.receiver.specs.declared.Answer.TheVariants as answer
use Rattle.report.specs.Report.{report_in, rule_fault}
use Rattle.book.specs.Admitting.{no_load}

-- a case: what is read or judged, and what it gives
pub data Case : Type 0 where
  message : String → Found → Case
  called : ℕ → ℕ → String → Outcome → ℕ → ℕ → String → Case
  price : String → ℕ → Case
  no_price : String → ℕ → Case
  breaks : Form → String → ℕ → Case
  day : String → Bool → Case
  rules : String → Option Fault → Case

-- a receiver whose IDs are FIRM and SPHR, in phase 2, with no fills; and what it does when it is given a message
abbrev pub agreed : Setup
agreed = record { ours = id_with (bytes_of "FIRM"); theirs = id_with (bytes_of "SPHR") }

abbrev pub within : ℕ → ℕ → State
within e o = record { phase = In; asked = None; offered = 0; kept = record { e = e; o = o; slots = []; rows = []; load = no_load; acked = 0; day = 0 } }

abbrev pub worked : ℕ → ℕ → List ℕ → Did
worked e o text =
    does agreed (within e o) (record { reply = 512; note = 102; line = 0 }) (Message (bytes_of "20250108-14:30:01.000") text)

-- YYYYMMDD is a day, or is none; and so says a time of that day
abbrev pub DayIs : List ℕ → Bool → Type 0
DayIs s is =
    (is_day (number_on 0 4 s) (number_on 4 2 s) (number_on 6 2 s) ≡ is)
    × (check_reason (time_checked (s ++ bytes_of "-00:00:00")) ≡ cond is none (some 5))

-- a message call in phase 2 with these E and O: what became of the message, the phase and the E after it, and the whole reply
pub record Works (e o : ℕ) (text : List ℕ) (became : Outcome) (phase' e' : ℕ) (reply : List ℕ) : Type 0 where
  pub answer : (worked e o text).answer ≡ answer.Framed (length text) became
  pub phase : phase_number (worked e o text).next.phase ≡ phase'
  pub expected : (worked e o text).next.kept.e ≡ e'
  pub written : (worked e o text).reply ≡ reply

abbrev pub Holds : Case → Type 0
Holds (message t found) = found_in (bytes_of t) ≡ found
Holds (called e o t became phase e' reply) = Works e o (bytes_of t) became phase e' (bytes_of reply)
Holds (price t p) = (price_reason (price_read (bytes_of t)) ≡ none) × (price_values (price_read (bytes_of t)) ≡ p ∷ [])
Holds (no_price t reason) = price_reason (price_read (bytes_of t)) ≡ some reason
Holds (breaks form t place) = bad_form form (bytes_of t) ≡ some place
Holds (day t is) = DayIs (bytes_of t) is
Holds (rules t found) = rule_fault (report_in (pieces_of (bytes_of t))) ≡ found

abbrev pub All : List Case → Type 0
All [] = Unit
All (c ∷ cs) = Holds c × All cs

-- a report of the paper's is given by 38, 14 and 151; its other values keep the other rules
abbrev pub cases : List Case
cases =
    message "8=FIX.4.2|9=5|35=0|10=161|" (Framed 26)
    ∷ message "8=FIX.4.2|9=5|35=0|10=162|" (Garbled 26)
    ∷ message "8=FIX.4.2|9=05|35=0|10=209|" (Framed 27)
    ∷ message "8=FIX.4.2|9=05|35=0|10=161|" (Garbled 27)
    ∷ called 5 1 "8=FIX.4.2|9=47|35=0|34=5|49=SPHR|56=FIRM|52=20250108-14:30:00|10=112|" Heard 2 6 ""
    ∷ called 5 1 "8=FIX.4.2|9=47|35=0|34=7|49=SPHR|56=FIRM|52=20250108-14:30:00|10=114|" Gap 2 5
    "8=FIX.4.2|9=60|35=2|34=1|49=FIRM|56=SPHR|52=20250108-14:30:01.000|7=5|16=0|10=167|"
    ∷ called 5 1 "8=FIX.4.2|9=52|35=0|34=4|49=SPHR|56=FIRM|43=Y|52=20250108-14:30:00|10=105|" Dropped 2 5 ""
    ∷ called 5 1 "8=FIX.4.2|9=47|35=0|34=4|49=SPHR|56=FIRM|52=20250108-14:30:00|10=111|" Ended 3 5 "8=FIX.4.2|9=51|35=5|34=1|49=FIRM|56=SPHR|52=20250108-14:30:01.000|10=043|"
    ∷ called 5 10 "8=FIX.4.2|9=56|35=2|34=5|49=SPHR|56=FIRM|52=20250108-14:30:00|7=3|16=0|10=239|" Filled 2 6
    "8=FIX.4.2|9=94|35=4|34=3|49=FIRM|56=SPHR|43=Y|52=20250108-14:30:01.000|122=20250108-14:30:01.000|123=Y|36=10|10=083|"
    ∷ called 5 10 "8=FIX.4.2|9=56|35=2|34=5|49=SPHR|56=FIRM|52=20250108-14:30:00|7=3|16=5|10=244|" Filled 2 6
    "8=FIX.4.2|9=93|35=4|34=3|49=FIRM|56=SPHR|43=Y|52=20250108-14:30:01.000|122=20250108-14:30:01.000|123=Y|36=6|10=039|"
    ∷ called 5 10 "8=FIX.4.2|9=57|35=2|34=5|49=SPHR|56=FIRM|52=20250108-14:30:00|7=10|16=0|10=030|" (Rejected (fault 5 7)) 2 6
    "8=FIX.4.2|9=75|35=3|34=10|49=FIRM|56=SPHR|52=20250108-14:30:01.000|45=5|371=7|372=2|373=5|10=103|"
    ∷ price "1.05" 10500
    ∷ no_price "5." 6
    ∷ day "20240229" true
    ∷ day "20230229" false
    ∷ rules "38=50|32=20|14=20|151=30|150=1|39=1|" none
    ∷ rules "38=50|32=20|14=20|151=31|150=1|39=1|" (some (fault 5 151))
    ∷ []

-- "the place, from 0, of the first byte that breaks the form, or the value's length where it is too short", form by form; a report whose 31 is `5.`, and one whose 60 has its form
-- and is no time
abbrev pub places : List Case
places =
    breaks Price "5." 2
    ∷ breaks Price ".5" 0
    ∷ breaks Price "x" 0
    ∷ breaks Price "1x.5" 1
    ∷ breaks Price "12345678" 7
    ∷ breaks Price "12345678.5" 7
    ∷ breaks Price "1.23456" 6
    ∷ breaks Price "1..2" 2
    ∷ breaks Price "1.2.3" 3
    ∷ breaks Price "1.2x" 3
    ∷ breaks Price "-1" 0
    ∷ breaks Price "1,05" 1
    ∷ breaks Price "1234567.12345" 12
    ∷ breaks (Number Any) "12a" 2
    ∷ breaks (Number Any) "1234567890" 9
    ∷ breaks (Number Any) "0000000001" 9
    ∷ breaks (Number Any) "123456789x" 9
    ∷ breaks (Number Any) "1234x67890" 4
    ∷ breaks (Number Any) "x234567890" 0
    ∷ breaks (Number Any) "+5" 0
    ∷ breaks Time "2025" 4
    ∷ breaks Time "2025x" 4
    ∷ breaks Time "20250108 14:30:01" 8
    ∷ breaks Time "20250108-14:30:01." 18
    ∷ breaks Time "20250108-14:30:01.5" 19
    ∷ breaks Time "20250108-14:30:01x" 17
    ∷ breaks Time "20250108-14:30:01.0000" 21
    ∷ breaks Time "20250108-14:30:0" 16
    ∷ breaks Time "20251399-99:99:9x" 16
    ∷ breaks Time "20250108-14:30:01,000" 17
    ∷ breaks (Graph Any) "A B" 1
    ∷ breaks (Graph Any) "ABCDEFGHIJKLMNOPQRSTUV WX" 22
    ∷ called 7 10
    "8=FIX.4.2|9=141|35=8|34=7|49=SPHR|56=FIRM|52=20250108-14:30:00|17=X1|37=7001|20=0|55=ABC|54=1|38=50|32=20|31=5.|14=20|151=30|150=1|39=1|60=20250108-14:29:59|10=164|"
    (Rejected (record { reason = 6; tag = 31; at = 2 })) 2 8
    "8=FIX.4.2|9=84|35=3|34=10|49=FIRM|56=SPHR|52=20250108-14:30:01.000|45=7|371=31|372=8|373=6|58=at 2|10=111|"
    ∷ called 7 10
    "8=FIX.4.2|9=140|35=8|34=7|49=SPHR|56=FIRM|52=20250108-14:30:00|17=X1|37=7001|20=0|55=ABC|54=1|38=50|32=20|31=5|14=20|151=30|150=1|39=1|60=20251399-99:99:99|10=154|"
    (Rejected (fault 5 60)) 2 8
    "8=FIX.4.2|9=76|35=3|34=10|49=FIRM|56=SPHR|52=20250108-14:30:01.000|45=7|371=60|372=8|373=5|10=159|"
    ∷ []
