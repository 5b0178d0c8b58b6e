-- No second answer, and no second lent bytes, satisfy the contract of a public function: proved of the contract itself (octet's Once.antt).
use Rattle.octet.proofs.Once.{Once, alone, by, both, ◌&◌}
use Rattle.wire.specs.contracts.write as write
use Rattle.wire.specs.contracts.write_reply as write-reply
use Rattle.wire.specs.contracts.used_by as used-by

pub write-one : Once write.ended (λ M 𝓤. write.clauses) (λ κs r e. r & e.1.1.1.1.1.0.now)
write-one M 𝓤 𝓛 mem run κs a g = (_, λ r e. by 𝓤 (λ p. both p.end p.bytes))

pub write-reply-one : Once write-reply.ended (λ M 𝓤. write-reply.clauses) (λ κs r e. r & e.1.1.1.1.1.0.now)
write-reply-one M 𝓤 𝓛 mem run κs a g = (_, λ r e. by 𝓤 (λ p. both p.end p.bytes))

pub used-by-one : Once used-by.ended (λ M 𝓤. used-by.clauses) (λ κs r e. r)
used-by-one M 𝓤 𝓛 mem run κs a g = (_, λ r e. alone 𝓤)
