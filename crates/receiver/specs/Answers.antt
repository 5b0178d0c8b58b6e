-- "When an answer is an enum, a definition sets out this paper's number and values for each of its cases. The promises use that definition": of what a call answers. One clause an
-- answer; what the demands, the transcript's words and the timing library ask of an answer is looked up here.
use Rattle.std.specs.Prelude.{ℕ, List, [], ◌∷◌}
use Rattle.std.proofs.Math.Option.{Option, none, some}
use Rattle.answer.specs.Numbers.{refusal_number, refusal_values, outcome_number, outcome_values}
use Rattle.answer.specs.declared.Outcome.{Outcome}
use Rattle.answer.specs.declared.Refusal.{Refusal}
use Rattle.receiver.specs.declared.Answer.{Answer}
use Rattle.receiver.specs.declared.Answer.TheVariants.{Done, Refused, More, Garbled, Framed, Offered, None, Acked, Already, Restarted}

-- which answer it is, and its values; the refusal, where it is one; and what became of a framed message
pub record Telling : Type 0 where
  pub number : ℕ
  pub values : List ℕ
  pub refused : Option Refusal
  pub became : Option Outcome

abbrev plain : ℕ → List ℕ → Telling
plain n vs = record { number = n; values = vs; refused = none; became = none }

-- The paper has a word for each answer and no number: they are numbered here, from 0. Of a refusal the column No. and its values; of Garbled the skip; of Framed the length, and
-- the number and the values of what became of it; of a restart "how many bytes are whole"
abbrev pub tells_of : Answer → Telling
tells_of Done = plain 0 []
tells_of (Refused why) = record { number = 1; values = refusal_number why ∷ refusal_values why; refused = some why; became = none }
tells_of More = plain 2 []
tells_of (Garbled skip) = plain 3 (skip ∷ [])
tells_of (Framed len o) = record { number = 4; values = len ∷ outcome_number o ∷ outcome_values o; refused = none; became = some o }
tells_of Offered = plain 5 []
tells_of None = plain 6 []
tells_of Acked = plain 7 []
tells_of Already = plain 8 []
tells_of (Restarted whole) = plain 9 (whole ∷ [])
