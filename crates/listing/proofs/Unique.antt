-- No second answer, and no second lent bytes, satisfy the contract of a public function: proved of the contract itself (octet's Once.antt).
use Rattle.octet.proofs.Once.{Once, alone, paired, by, both, ◌&◌}
use Rattle.listing.specs.contracts.damaged_text as damaged-text
use Rattle.listing.specs.contracts.put_front as put-front
use Rattle.listing.specs.contracts.day_of as day-of
use Rattle.listing.specs.contracts.write_listing as write-listing

pub damaged-text-one : Once damaged-text.ended (λ M 𝓤. damaged-text.clauses) (λ κs r e. r)
damaged-text-one M 𝓤 𝓛 mem run κs a g = (_, λ r e. alone 𝓤)

pub put-front-one : Once put-front.ended (λ M 𝓤. put-front.clauses) (λ κs r e. r & e.0.now)
put-front-one M 𝓤 𝓛 mem run κs a g = (_, λ r e. paired 𝓤)

pub day-of-one : Once day-of.ended (λ M 𝓤. day-of.clauses) (λ κs r e. r & e.1.0.now & e.1.1.0.now)
day-of-one M 𝓤 𝓛 mem run κs a g = (_, λ r e. by 𝓤 (λ p. both p.0 (both p.2 p.1)))

pub write-listing-one : Once write-listing.ended (λ M 𝓤. write-listing.clauses) (λ κs r e. r & e.1.0.now & e.1.1.0.now)
write-listing-one M 𝓤 𝓛 mem run κs a g = (_, λ r e. by 𝓤 (λ p. both p.0 (both p.2 p.1)))
