-- No second lent text satisfies the contract of a public function: proved of the contract itself (octet's Once.antt).
use Rattle.octet.proofs.Once.{Once, alone}
use Rattle.words.specs.contracts.say_outcome as say-outcome
use Rattle.words.specs.contracts.say_refusal as say-refusal
use Rattle.words.specs.contracts.say_answer as say-answer

pub say-outcome-one : Once say-outcome.ended (λ M 𝓤. say-outcome.clauses) (λ κs r e. e.0.now)
say-outcome-one M 𝓤 𝓛 mem run κs a g = (_, λ r e. alone 𝓤)

pub say-refusal-one : Once say-refusal.ended (λ M 𝓤. say-refusal.clauses) (λ κs r e. e.0.now)
say-refusal-one M 𝓤 𝓛 mem run κs a g = (_, λ r e. alone 𝓤)

pub say-answer-one : Once say-answer.ended (λ M 𝓤. say-answer.clauses) (λ κs r e. e.0.now)
say-answer-one M 𝓤 𝓛 mem run κs a g = (_, λ r e. alone 𝓤)
