-- No second answer, and no second lent rows, satisfy the contract of a public function: proved of the contract itself (octet's Once.antt).
use Rattle.octet.proofs.Once.{Once, alone, paired, ◌&◌}
use Rattle.page.specs.contracts.told as told
use Rattle.page.specs.contracts.row_of as row_of
use Rattle.page.specs.contracts.page as page

pub told-one : Once told.ended (λ M 𝓤. told.clauses) (λ κs r e. r)
told-one M 𝓤 𝓛 mem run κs a g = (_, λ r e. alone 𝓤)

pub row-of-one : Once row_of.ended (λ M 𝓤. row_of.clauses) (λ κs r e. r)
row-of-one M 𝓤 𝓛 mem run κs a g = (_, λ r e. alone 𝓤)

pub page-one : Once page.ended (λ M 𝓤. page.clauses) (λ κs r e. r & e.1.1.0.now)
page-one M 𝓤 𝓛 mem run κs a g = (_, λ r e. paired 𝓤)
