-- No second answer satisfies the contract of a public function: proved of the contract itself (octet's Once.antt).
use Rattle.octet.proofs.Once.{Once, alone}
use Rattle.answer.specs.contracts.Fault.of as of
use Rattle.answer.specs.contracts.count_on as count-on
use Rattle.answer.specs.contracts.Phase.number as phase-number
use Rattle.answer.specs.contracts.Outcome.number as outcome-number
use Rattle.answer.specs.contracts.Refusal.number as refusal-number
use Rattle.answer.specs.contracts.Setup.ours as ours
use Rattle.answer.specs.contracts.Setup.theirs as theirs
use Rattle.answer.specs.contracts.Venue.id as venue-id
use Rattle.answer.specs.contracts.Venue.is_emerald as is-emerald

pub fault-one : Once of.ended (λ M 𝓤. of.clauses) (λ κs r e. r)
fault-one M 𝓤 𝓛 mem run κs a g = (_, λ r e. alone 𝓤)

pub count-on-one : Once count-on.ended (λ M 𝓤. count-on.clauses) (λ κs r e. r)
count-on-one M 𝓤 𝓛 mem run κs a g = (_, λ r e. alone 𝓤)

pub phase-number-one : Once phase-number.ended (λ M 𝓤. phase-number.clauses) (λ κs r e. r)
phase-number-one M 𝓤 𝓛 mem run κs a g = (_, λ r e. alone 𝓤)

pub outcome-number-one : Once outcome-number.ended (λ M 𝓤. outcome-number.clauses) (λ κs r e. r)
outcome-number-one M 𝓤 𝓛 mem run κs a g = (_, λ r e. alone 𝓤)

pub refusal-number-one : Once refusal-number.ended (λ M 𝓤. refusal-number.clauses) (λ κs r e. r)
refusal-number-one M 𝓤 𝓛 mem run κs a g = (_, λ r e. alone 𝓤)

pub ours-one : Once ours.ended (λ M 𝓤. ours.clauses) (λ κs r e. r)
ours-one M 𝓤 𝓛 mem run κs a g = (_, λ r e. alone 𝓤)

pub theirs-one : Once theirs.ended (λ M 𝓤. theirs.clauses) (λ κs r e. r)
theirs-one M 𝓤 𝓛 mem run κs a g = (_, λ r e. alone 𝓤)

pub venue-id-one : Once venue-id.ended (λ M 𝓤. venue-id.clauses) (λ κs r e. r)
venue-id-one M 𝓤 𝓛 mem run κs a g = (_, λ r e. alone 𝓤)

pub is-emerald-one : Once is-emerald.ended (λ M 𝓤. is-emerald.clauses) (λ κs r e. r)
is-emerald-one M 𝓤 𝓛 mem run κs a g = (_, λ r e. alone 𝓤)
