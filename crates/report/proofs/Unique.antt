-- No second answer, and no second lent slot, satisfy the contract of a public function: proved of the contract itself (octet's Once.antt).
use Rattle.octet.proofs.Once.{Once, alone, paired, ◌&◌}
use Rattle.report.specs.contracts.reported_into as reported-into
use Rattle.report.specs.contracts.entry_into as entry-into

pub reported-into-one : Once reported-into.ended (λ M 𝓤. reported-into.clauses) (λ κs r e. r & e.1.0.now)
reported-into-one M 𝓤 𝓛 mem run κs a g = (_, λ r e. paired 𝓤)

pub entry-into-one : Once entry-into.ended (λ M 𝓤. entry-into.clauses) (λ κs r e. e.1.0.now)
entry-into-one M 𝓤 𝓛 mem run κs a g = (_, λ r e. alone 𝓤)
