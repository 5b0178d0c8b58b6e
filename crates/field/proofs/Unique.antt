-- No second answer, and no second lent list, satisfy the contract of a public function: proved of the contract itself (octet's Once.antt).
use Rattle.octet.proofs.Once.{Once, alone, paired, ◌&◌}
use Rattle.field.specs.contracts.index_into as index-into
use Rattle.field.specs.contracts.Look.value_in as value_in
use Rattle.field.specs.contracts.Look.count_in as count-in
use Rattle.field.specs.contracts.Look.value as value-of
use Rattle.field.specs.contracts.Look.count as count_of

pub index-into-once : Once index-into.ended (λ M 𝓤. index-into.clauses) (λ κs r e. r & e.1.0.now)
index-into-once M 𝓤 𝓛 mem run κs a g = (_, λ r e. paired 𝓤)

pub value-in-once : Once value_in.ended (λ M 𝓤. value_in.clauses) (λ κs r e. r.now)
value-in-once M 𝓤 𝓛 mem run κs a g = (_, λ r e. alone 𝓤)

pub count-in-once : Once count-in.ended (λ M 𝓤. count-in.clauses) (λ κs r e. r)
count-in-once M 𝓤 𝓛 mem run κs a g = (_, λ r e. alone 𝓤)

pub value-of-once : Once value-of.ended (λ M 𝓤. value-of.clauses) (λ κs r e. r.now)
value-of-once M 𝓤 𝓛 mem run κs a g = (_, λ r e. alone 𝓤)

pub count-of-once : Once count_of.ended (λ M 𝓤. count_of.clauses) (λ κs r e. r)
count-of-once M 𝓤 𝓛 mem run κs a g = (_, λ r e. alone 𝓤)
