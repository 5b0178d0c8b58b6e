-- The words for what a call answers: "When an answer is an enum, a definition sets out this paper's number and values for each of its cases." Where the
-- paper has a number it stands there, from the one table of them; the words are the paper's, in one word each.
use Rattle.std.specs.Prelude.{ℕ, List, [], ◌∷◌, ◌++◌, Bool, cond}
use Rattle.octet.specs.Bytes.{bytes_of}
use Rattle.text.specs.Decimal.{decimal}
use Rattle.answer.specs.Numbers.{refusal_number, refusal_values}
use Rattle.answer.specs.declared.Fault.{Fault}
use Rattle.answer.specs.declared.Outcome.{Outcome}
use Rattle.answer.specs.declared.Outcome.TheVariants as outcome
use Rattle.answer.specs.declared.Refusal.{Refusal}
use Rattle.receiver.specs.declared.Answer.{Answer}
use Rattle.receiver.specs.declared.Answer.TheVariants as answer

abbrev pub number_after : List ℕ → ℕ → List ℕ
number_after word n = word ++ decimal n

-- values, each after a space
abbrev pub values_text : List ℕ → List ℕ
values_text [] = []
values_text (v ∷ vs) = number_after (bytes_of " ") v ++ values_text vs

-- "Reject 5 naming that tag": the reason, and the tag, 0 where none is named
abbrev pub reject_text : Fault → List ℕ
reject_text f = number_after (bytes_of "rejected ") f.reason ++ number_after (bytes_of " ") f.tag

-- "booked and numbered from 1"; "in step", "out of step"
abbrev pub booked_text : ℕ → Bool → List ℕ
booked_text n stepped = number_after (bytes_of "booked ") n ++ cond stepped (bytes_of " in") (bytes_of " out")

-- what became of a framed message. "A report with 442 is set aside: heard, not booked"
abbrev pub outcome_text : Outcome → List ℕ
outcome_text outcome.Ended = bytes_of "ended"
outcome_text (outcome.Rejected f) = reject_text f
outcome_text (outcome.RejectedEnded f) = reject_text f ++ bytes_of " ended"
outcome_text outcome.Dropped = bytes_of "dropped"
outcome_text outcome.Gap = bytes_of "gap"
outcome_text outcome.In = bytes_of "in"
outcome_text outcome.Heard = bytes_of "heard"
outcome_text outcome.Echoed = bytes_of "heartbeat"
outcome_text outcome.Filled = bytes_of "gapfill"
outcome_text (outcome.Moved n) = number_after (bytes_of "reset ") n
outcome_text outcome.Aside = bytes_of "heard"
outcome_text outcome.Already = bytes_of "already"
outcome_text (outcome.Booked n stepped) = booked_text n stepped
outcome_text (outcome.Entered n) = number_after (bytes_of "entered ") n

-- the column "No.", and the values of the row
abbrev pub refusal_text : Refusal → List ℕ
refusal_text why = number_after (bytes_of "refused ") (refusal_number why) ++ values_text (refusal_values why)

abbrev pub answer_text : Answer → List ℕ
answer_text answer.Done = bytes_of "ok"
answer_text (answer.Refused why) = refusal_text why
answer_text answer.More = bytes_of "more"
answer_text (answer.Garbled skip) = number_after (bytes_of "garbled ") skip
answer_text (answer.Framed len o) = number_after (bytes_of "framed ") len ++ bytes_of " " ++ outcome_text o
answer_text answer.Offered = bytes_of "offered"
answer_text answer.None = bytes_of "none"
answer_text answer.Acked = bytes_of "acked"
answer_text answer.Already = bytes_of "already"
answer_text (answer.Restarted whole) = number_after (bytes_of "restarted ") whole
