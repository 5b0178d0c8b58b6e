-- No second answer, and no second lent bytes, satisfy the contract of a public function: proved of the contract itself (octet's Once.antt).
use Rattle.octet.proofs.Once.{Once, alone, paired, ◌&◌}
use Rattle.parts.specs.contracts.relay as relay
use Rattle.parts.specs.contracts.put_filled as put-filled

pub relay-one : Once relay.ended (λ M 𝓤. relay.clauses) (λ κs r e. r & e.0.now)
relay-one M 𝓤 𝓛 mem run κs a g = (_, λ r e. paired 𝓤)

pub put-filled-one : Once put-filled.ended (λ M 𝓤. put-filled.clauses) (λ κs r e. e.0.now)
put-filled-one M 𝓤 𝓛 mem run κs a g = (_, λ r e. alone 𝓤)
