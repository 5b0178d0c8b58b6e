-- No second answer, and no second lent book, satisfy the contract of a function of this crate: proved of the contract itself (octet's Once.antt).
use Rattle.octet.proofs.Once.{Once, alone, by, both, ◌&◌}
use Rattle.restart.specs.contracts.load_in as load-in
use Rattle.restart.specs.contracts.restart as restart

pub load-in-one : Once load-in.ended (λ M 𝓤. load-in.clauses) (λ κs r e. r)
load-in-one M 𝓤 𝓛 mem run κs a g = (_, λ r e. alone 𝓤)

pub restart-one : Once restart.ended (λ M 𝓤. restart.clauses) (λ κs r e. r & e.0.now)
restart-one M 𝓤 𝓛 mem run κs a g = (_, λ r e. by 𝓤 (λ p. both p.0 p.1))
