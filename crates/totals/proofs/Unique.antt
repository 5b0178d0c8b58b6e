-- No second answer, and no second lent bytes, satisfy the contract of the totals: proved of the contract itself (octet's Once.antt).
use Rattle.octet.proofs.Once.{Once, by, both, ◌&◌}
use Rattle.totals.specs.contracts.write_totals as write-totals

pub write-totals-one : Once write-totals.ended (λ M 𝓤. write-totals.clauses) (λ κs r e. r & e.1.0.now & e.1.1.0.now)
write-totals-one M 𝓤 𝓛 mem run κs a g = (_, λ r e. by 𝓤 (λ p. both p.0 (both p.2 p.1)))
