-- What sort of call each is, one clause a call, and what the demands ask of an answer. It is looked up here.
use Rattle.std.specs.Prelude.{ℕ, List, [], ◌∷◌, Bool, true, false, cond, ◌||◌, not, eqb}
use Rattle.std.proofs.Math.Option.{Option, none, some}
use Rattle.octet.specs.Maybe.{first, unless, is_none}
use Rattle.answer.specs.Numbers.{outcome_number, outcome_values}
use Rattle.answer.specs.declared.Fault.{Fault}
use Rattle.answer.specs.declared.Outcome.{Outcome}
use Rattle.answer.specs.declared.Outcome.TheVariants as outcome
use Rattle.answer.specs.declared.Refusal.{Refusal}
use Rattle.session.specs.declared.Own.{Own}
use Rattle.session.specs.declared.Own.TheVariants.{Open, Beat, Ask, Close}
use Rattle.receiver.specs.Receiver.{What, Own-call, Line-lost, Message, Offer, Begin-again, Acknowledge, New-day, Restart}
use Rattle.receiver.specs.Answers.{tells_of}
use Rattle.receiver.specs.declared.Answer.{Answer}

-- what f says of a thing where it is given; b where it is not
abbrev pub where_given : {A B : Type 0} → B → (A → B) → Option A → B
where_given b f none = b
where_given b f (some a) = f a

-- ---- calls

-- the buffers that a call is lent
pub record Buffers : Type 0 where
  pub reply : Bool
  pub note : Bool
  pub line : Bool

abbrev pub reply_and_note : Buffers
reply_and_note = record { reply = true; note = true; line = false }

abbrev pub note_alone : Buffers
note_alone = record { reply = false; note = true; line = false }

abbrev pub line_alone : Buffers
line_alone = record { reply = false; note = false; line = true }

abbrev pub no_buffer : Buffers
no_buffer = record { reply = false; note = false; line = false }

-- "3: wrong phase; a message needs 1, 2 or 4": the phases that calls may come in
abbrev pub any_phase : List ℕ
any_phase = 0 ∷ 1 ∷ 2 ∷ 3 ∷ 4 ∷ []

abbrev pub outside : List ℕ
outside = 0 ∷ 3 ∷ []

abbrev pub on_the_line : List ℕ
on_the_line = 1 ∷ 2 ∷ 4 ∷ []

-- "open (phase 0 or 3 ..), heartbeat, test request .., close .., the last three in phase 2"
abbrev pub phases_of_own : Own → List ℕ
phases_of_own Open = outside
phases_of_own Beat = 2 ∷ []
phases_of_own Ask = 2 ∷ []
phases_of_own Close = 2 ∷ []

-- the buffers it is lent (a call that can write messages is lent a reply buffer), the time it is given, the phases it may come in, the bytes of a message, the n that it
-- acknowledges, whether it begins again, whether it clears the day, and the notes that it starts from
pub record Sort : Type 0 where
  pub lent : Buffers
  pub time : Option (List ℕ)
  pub phases : List ℕ
  pub message : Option (List ℕ)
  pub acks : Option ℕ
  pub begins : Bool
  pub clears : Bool
  pub notes : Option (List ℕ)

abbrev pub sort_of : What → Sort
sort_of (Own-call own time) = record {
  lent = reply_and_note;
  time = some time;
  phases = phases_of_own own;
  message = none;
  acks = none;
  begins = false;
  clears = false;
  notes = none;
}
sort_of Line-lost = record { lent = no_buffer; time = none; phases = on_the_line; message = none; acks = none; begins = false; clears = false; notes = none }
sort_of (Message time s) = record { lent = reply_and_note; time = some time; phases = on_the_line; message = some s; acks = none; begins = false; clears = false; notes = none }
sort_of Offer = record { lent = line_alone; time = none; phases = any_phase; message = none; acks = none; begins = false; clears = false; notes = none }
sort_of Begin-again = record { lent = no_buffer; time = none; phases = any_phase; message = none; acks = none; begins = true; clears = false; notes = none }
sort_of (Acknowledge n) = record { lent = note_alone; time = none; phases = any_phase; message = none; acks = some n; begins = false; clears = false; notes = none }
sort_of New-day = record { lent = note_alone; time = none; phases = outside; message = none; acks = none; begins = false; clears = true; notes = none }
sort_of (Restart notes) = record { lent = no_buffer; time = none; phases = any_phase; message = none; acks = none; begins = false; clears = false; notes = some notes }

-- ---- answers, by the numbers and values that the receiver's own table of them has (`tells_of`)

-- what became of a framed message: the number under which a fill was booked (outcome 12) or an entry entered (13), and the fault for which a Reject was written
pub record Became : Type 0 where
  pub booked : Option ℕ
  pub rejected : Option Fault

abbrev pub neither_nor : Became
neither_nor = record { booked = none; rejected = none }

-- of outcomes 2 and 3
abbrev pub fault_of : Outcome → Option Fault
fault_of outcome.Ended = none
fault_of (outcome.Rejected f) = some f
fault_of (outcome.RejectedEnded f) = some f
fault_of outcome.Dropped = none
fault_of outcome.Gap = none
fault_of outcome.In = none
fault_of outcome.Heard = none
fault_of outcome.Echoed = none
fault_of outcome.Filled = none
fault_of (outcome.Moved n) = none
fault_of outcome.Aside = none
fault_of outcome.Already = none
fault_of (outcome.Booked n stepped) = none
fault_of (outcome.Entered n) = none

abbrev pub became_of : Outcome → Became
became_of o = record {
  booked = cond (eqb (outcome_number o) 12 || eqb (outcome_number o) 13) (first (outcome_values o)) none;
  rejected = fault_of o;
}

-- the refusal that an answer is
abbrev pub refused_with : Answer → Option Refusal
refused_with a = (tells_of a).refused

abbrev pub became : Answer → Became
became a = where_given neither_nor became_of (tells_of a).became

-- what a message was counted as, where it was: booked (outcomes 12 and 13), already booked (outcome 11), rejected, or garbled (answer 3)
abbrev pub is_booked : Answer → Bool
is_booked a = not (is_none (became a).booked)

abbrev pub is_already : Answer → Bool
is_already a = where_given false (λ (o : Outcome). eqb (outcome_number o) 11) (tells_of a).became

abbrev pub rejected_for : Answer → Option Fault
rejected_for a = (became a).rejected

abbrev pub is_rejected : Answer → Bool
is_rejected a = not (is_none (rejected_for a))

abbrev pub is_garbled : Answer → Bool
is_garbled a = eqb (tells_of a).number 3

-- whether a line was given (answer 5), whether fills were acknowledged (answer 7), and how many bytes a restart says are whole (answer 9)
abbrev pub is_offered : Answer → Bool
is_offered a = eqb (tells_of a).number 5

abbrev pub is_acked : Answer → Bool
is_acked a = eqb (tells_of a).number 7

abbrev pub whole_of : Answer → ℕ
whole_of a = cond (eqb (tells_of a).number 9) (unless 0 (first (tells_of a).values)) 0
