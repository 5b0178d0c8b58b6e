-- "When an answer is an enum, a definition sets out this paper's number and values for each of its cases": of phases, refusals and outcomes; and the numbers that the paper says
-- more than once. Of an answer of the receiver, and of a reader, they stand beside these enums, and cite what is here.
use Rattle.std.specs.Prelude.{ℕ, ◌+◌, min, List, [], ◌∷◌, Bool, cond, ◌||◌, eqb}
use Rattle.answer.specs.declared.Phase.{Phase}
use Rattle.answer.specs.declared.Phase.TheVariants as phase
use Rattle.answer.specs.declared.Kind.{Kind}
use Rattle.answer.specs.declared.Kind.TheVariants as kind
use Rattle.answer.specs.declared.Fault.{Fault}
use Rattle.answer.specs.declared.Outcome.{Outcome}
use Rattle.answer.specs.declared.Outcome.TheVariants as outcome
use Rattle.answer.specs.declared.Refusal.{Refusal}
use Rattle.answer.specs.declared.Refusal.TheVariants as refusal

-- "Phases: 0 out, 1 logon sent, 2 in, 3 ended, 4 closing"
abbrev pub phase_number : Phase → ℕ
phase_number phase.Out = 0
phase_number phase.Sent = 1
phase_number phase.In = 2
phase_number phase.Ended = 3
phase_number phase.Closing = 4

-- phase 2 or 4
abbrev pub inside : Phase → Bool
inside p = eqb (phase_number p) 2 || eqb (phase_number p) 4

-- "Call refusals": the column No.
abbrev pub refusal_number : Refusal → ℕ
refusal_number refusal.ShortBuffer = 1
refusal_number refusal.BadTime = 2
refusal_number refusal.WrongPhase = 3
refusal_number refusal.NumbersUsed = 4
refusal_number refusal.NoRoom = 5
refusal_number refusal.NotOffered = 6
refusal_number refusal.StillWaiting = 7
refusal_number (refusal.Unlawful place) = 8
refusal_number refusal.BadId = 9

-- "with its first byte's place, from 0"
abbrev pub refusal_values : Refusal → List ℕ
refusal_values refusal.ShortBuffer = []
refusal_values refusal.BadTime = []
refusal_values refusal.WrongPhase = []
refusal_values refusal.NumbersUsed = []
refusal_values refusal.NoRoom = []
refusal_values refusal.NotOffered = []
refusal_values refusal.StillWaiting = []
refusal_values (refusal.Unlawful place) = place ∷ []
refusal_values refusal.BadId = []

-- What became of a framed message. The paper has a word for each and no number: they are numbered here, from 1, in the order in which a message comes to them. "A report with 442
-- is set aside: heard, not booked"
abbrev pub outcome_number : Outcome → ℕ
outcome_number outcome.Ended = 1
outcome_number (outcome.Rejected f) = 2
outcome_number (outcome.RejectedEnded f) = 3
outcome_number outcome.Dropped = 4
outcome_number outcome.Gap = 5
outcome_number outcome.In = 6
outcome_number outcome.Heard = 7
outcome_number outcome.Echoed = 8
outcome_number outcome.Filled = 9
outcome_number (outcome.Moved n) = 10
outcome_number outcome.Aside = 7
outcome_number outcome.Already = 11
outcome_number (outcome.Booked n stepped) = 12
outcome_number (outcome.Entered n) = 13

-- of a Reject the reason and the tag that it names; "answers with 36 less the old E"; of a fill its number, and 1 where it is in step; of an entry its number
abbrev pub outcome_values : Outcome → List ℕ
outcome_values outcome.Ended = []
outcome_values (outcome.Rejected f) = f.reason ∷ f.tag ∷ []
outcome_values (outcome.RejectedEnded f) = f.reason ∷ f.tag ∷ []
outcome_values outcome.Dropped = []
outcome_values outcome.Gap = []
outcome_values outcome.In = []
outcome_values outcome.Heard = []
outcome_values outcome.Echoed = []
outcome_values outcome.Filled = []
outcome_values (outcome.Moved n) = n ∷ []
outcome_values outcome.Aside = []
outcome_values outcome.Already = []
outcome_values (outcome.Booked n stepped) = n ∷ cond stepped 1 0 ∷ []
outcome_values (outcome.Entered n) = n ∷ []

-- ---- a Reject's reasons: the numbers of 373

-- "First malformed field: Reject 0; without a value: Reject 4"
abbrev pub malformed : ℕ
malformed = 0

abbrev pub valueless : ℕ
valueless = 4

-- "missing 1, twice 5, bad form 6, out of range 5"; what the rules and the book reject is 5 too
abbrev pub missing : ℕ
missing = 1

abbrev pub wrong_value : ℕ
wrong_value = 5

abbrev pub wrong_form : ℕ
wrong_form = 6

-- "Reject 9 naming that tag"
abbrev pub wrong_id : ℕ
wrong_id = 9

-- "Type not listed, or A in phase 2 or 4: Reject 11"
abbrev pub wrong_type : ℕ
wrong_type = 11

-- a fault that is none of form
abbrev pub fault : ℕ → ℕ → Fault
fault reason tag = record { reason = reason; tag = tag; at = 0 }

-- ---- numbers that the paper says more than once

-- "Numbers have digits only, 1 to 9": the largest of them. "both at most 999,999,999", of E and O
abbrev pub nine_digits : ℕ
nine_digits = 999999999

-- "The first `34=` field is 1 to 999,999,998"
abbrev pub last_sequence : ℕ
last_sequence = 999999998

-- "O above 999,999,997"
abbrev pub last_to_send : ℕ
last_to_send = 999999997

-- "38 and 32 are 1 to 999,999"
abbrev pub most_contracts : ℕ
most_contracts = 999999

-- the largest number of four bytes
abbrev pub largest : ℕ
largest = 4294967295

-- a number counted on; it is kept in four bytes and goes no further (refusal 4 and step 1 come long before)
abbrev pub counted : ℕ → ℕ → ℕ
counted n k = min (n + k) largest

-- which row of the table a type has, to tell one from another
abbrev pub kind_number : Kind → ℕ
kind_number kind.Logon = 0
kind_number kind.Heartbeat = 1
kind_number kind.Test = 2
kind_number kind.Resend = 3
kind_number kind.Reset = 4
kind_number kind.Logout = 5
kind_number kind.Report = 6
kind_number kind.Correction = 7
kind_number kind.Other = 8
kind_number kind.Unlisted = 9

abbrev pub is_kind : Kind → Kind → Bool
is_kind a b = eqb (kind_number a) (kind_number b)
