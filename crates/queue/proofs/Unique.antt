-- No second answer, and no second lent bytes, satisfy the contract of a public function: proved of the contract itself (octet's Once.antt).
use Rattle.octet.proofs.Once.{Once, alone, paired, by, both, ◌&◌}
use Rattle.queue.specs.contracts.Marks.none as none
use Rattle.queue.specs.contracts.Marks.again as again
use Rattle.queue.specs.contracts.Marks.one_more as one_more
use Rattle.queue.specs.contracts.Marks.offer as offer
use Rattle.queue.specs.contracts.Marks.begin_again as begin-again
use Rattle.queue.specs.contracts.Marks.acknowledge as acknowledge
use Rattle.queue.specs.contracts.Marks.new_day as new-day

pub none-one : Once none.ended (λ M 𝓤. none.clauses) (λ κs r e. r)
none-one M 𝓤 𝓛 mem run κs a g = (_, λ r e. alone 𝓤)

pub again-one : Once again.ended (λ M 𝓤. again.clauses) (λ κs r e. r)
again-one M 𝓤 𝓛 mem run κs a g = (_, λ r e. alone 𝓤)

pub one-more-one : Once one_more.ended (λ M 𝓤. one_more.clauses) (λ κs r e. r)
one-more-one M 𝓤 𝓛 mem run κs a g = (_, λ r e. alone 𝓤)

pub offer-one : Once offer.ended (λ M 𝓤. offer.clauses) (λ κs r e. r & e.1.1.1.0.now)
offer-one M 𝓤 𝓛 mem run κs a g = (_, λ r e. paired 𝓤)

pub begin-again-one : Once begin-again.ended (λ M 𝓤. begin-again.clauses) (λ κs r e. r)
begin-again-one M 𝓤 𝓛 mem run κs a g = (_, λ r e. alone 𝓤)

pub acknowledge-one : Once acknowledge.ended (λ M 𝓤. acknowledge.clauses) (λ κs r e. r & e.1.1.0.now & e.1.1.1.1.0.now)
acknowledge-one M 𝓤 𝓛 mem run κs a g = (_, λ r e. by 𝓤 (λ p. both p.0 (both p.1 p.2)))

pub new-day-one : Once new-day.ended (λ M 𝓤. new-day.clauses) (λ κs r e. r & e.1.0.now)
new-day-one M 𝓤 𝓛 mem run κs a g = (_, λ r e. paired 𝓤)
