-- No second answer, and no second lent tally, satisfy the contract of a public function: proved of the contract itself (octet's Once.antt).
use Rattle.octet.proofs.Once.{Once, alone}
use Rattle.tally.specs.contracts.Tally.new as new
use Rattle.tally.specs.contracts.Tally.one as one
use Rattle.tally.specs.contracts.count_of as count_of
use Rattle.tally.specs.contracts.count_booked as count-booked
use Rattle.tally.specs.contracts.count_already as count-already
use Rattle.tally.specs.contracts.count_rejected as count-rejected
use Rattle.tally.specs.contracts.count_garbled as count-garbled
use Rattle.tally.specs.contracts.count as count

pub new-once : Once new.ended (λ M 𝓤. new.clauses) (λ κs r e. r)
new-once M 𝓤 𝓛 mem run κs a g = (_, λ r e. alone 𝓤)

pub one-once : Once one.ended (λ M 𝓤. one.clauses) (λ κs r e. r)
one-once M 𝓤 𝓛 mem run κs a g = (_, λ r e. alone 𝓤)

pub count-of-once : Once count_of.ended (λ M 𝓤. count_of.clauses) (λ κs r e. r)
count-of-once M 𝓤 𝓛 mem run κs a g = (_, λ r e. alone 𝓤)

pub count-booked-once : Once count-booked.ended (λ M 𝓤. count-booked.clauses) (λ κs r e. e.0.now)
count-booked-once M 𝓤 𝓛 mem run κs a g = (_, λ r e. alone 𝓤)

pub count-already-once : Once count-already.ended (λ M 𝓤. count-already.clauses) (λ κs r e. e.0.now)
count-already-once M 𝓤 𝓛 mem run κs a g = (_, λ r e. alone 𝓤)

pub count-rejected-once : Once count-rejected.ended (λ M 𝓤. count-rejected.clauses) (λ κs r e. e.0.now)
count-rejected-once M 𝓤 𝓛 mem run κs a g = (_, λ r e. alone 𝓤)

pub count-garbled-once : Once count-garbled.ended (λ M 𝓤. count-garbled.clauses) (λ κs r e. e.0.now)
count-garbled-once M 𝓤 𝓛 mem run κs a g = (_, λ r e. alone 𝓤)

pub count-once : Once count.ended (λ M 𝓤. count.clauses) (λ κs r e. e.0.now)
count-once M 𝓤 𝓛 mem run κs a g = (_, λ r e. alone 𝓤)
