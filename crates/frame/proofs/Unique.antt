-- No second answer satisfies the contract of a public function: proved of the contract itself (octet's Once.antt).
use Rattle.octet.proofs.Once.{Once, alone}
use Rattle.frame.specs.contracts.find_by as find-by
use Rattle.frame.specs.contracts.find as find
use Rattle.frame.specs.contracts.body_by as body-by
use Rattle.frame.specs.contracts.body as body

pub find-by-once : Once find-by.ended (λ M 𝓤. find-by.clauses) (λ κs r e. r)
find-by-once M 𝓤 𝓛 mem run κs a g = (_, λ r e. alone 𝓤)

pub find-once : Once find.ended (λ M 𝓤. find.clauses) (λ κs r e. r)
find-once M 𝓤 𝓛 mem run κs a g = (_, λ r e. alone 𝓤)

pub body-by-once : Once body-by.ended (λ M 𝓤. body-by.clauses) (λ κs r e. r.now)
body-by-once M 𝓤 𝓛 mem run κs a g = (_, λ r e. alone 𝓤)

pub body-once : Once body.ended (λ M 𝓤. body.clauses) (λ κs r e. r.now)
body-once M 𝓤 𝓛 mem run κs a g = (_, λ r e. alone 𝓤)
