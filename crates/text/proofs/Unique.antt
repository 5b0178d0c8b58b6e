-- No second answer, and no second lent bytes, satisfy the contract of a public function: proved of the contract itself (octet's Once.antt).
use Rattle.octet.proofs.Once.{Once, alone, first, joined, ◌&◌}
use Rattle.text.specs.contracts.Text.new as new
use Rattle.text.specs.contracts.Text.put as put
use Rattle.text.specs.contracts.Text.all as all
use Rattle.text.specs.contracts.Text.part as part
use Rattle.text.specs.contracts.Text.decimal as decimal
use Rattle.text.specs.contracts.Text.fixed as fixed
use Rattle.text.specs.contracts.Text.price as price
use Rattle.text.specs.contracts.Text.field as field
use Rattle.text.specs.contracts.Text.number as number
use Rattle.text.specs.contracts.Text.letter as letter
use Rattle.text.specs.contracts.Text.held as held
use Rattle.text.specs.contracts.Text.place as place
use Rattle.text.specs.contracts.read_digits as read-digits
use Rattle.text.specs.contracts.byte_sum as byte-sum

pub new-once : Once new.ended (λ M 𝓤. new.clauses) (λ κs r e. r)
new-once M 𝓤 𝓛 mem run κs a g = (_, λ r e. alone 𝓤)

pub put-once : Once put.ended (λ M 𝓤. put.clauses) (λ κs r e. e.0.now)
put-once M 𝓤 𝓛 mem run κs a g = (_, λ r e. alone 𝓤)

pub all-once : Once all.ended (λ M 𝓤. all.clauses) (λ κs r e. e.0.now)
all-once M 𝓤 𝓛 mem run κs a g = (_, λ r e. alone 𝓤)

pub part-once : Once part.ended (λ M 𝓤. part.clauses) (λ κs r e. e.0.now)
part-once M 𝓤 𝓛 mem run κs a g = (_, λ r e. alone 𝓤)

pub decimal-once : Once decimal.ended (λ M 𝓤. decimal.clauses) (λ κs r e. e.0.now)
decimal-once M 𝓤 𝓛 mem run κs a g = (_, λ r e. alone 𝓤)

pub fixed-once : Once fixed.ended (λ M 𝓤. fixed.clauses) (λ κs r e. e.0.now)
fixed-once M 𝓤 𝓛 mem run κs a g = (_, λ r e. alone 𝓤)

pub price-once : Once price.ended (λ M 𝓤. price.clauses) (λ κs r e. e.0.now)
price-once M 𝓤 𝓛 mem run κs a g = (_, λ r e. alone 𝓤)

pub field-once : Once field.ended (λ M 𝓤. field.clauses) (λ κs r e. e.0.now)
field-once M 𝓤 𝓛 mem run κs a g = (_, λ r e. alone 𝓤)

pub number-once : Once number.ended (λ M 𝓤. number.clauses) (λ κs r e. e.0.now)
number-once M 𝓤 𝓛 mem run κs a g = (_, λ r e. alone 𝓤)

pub letter-once : Once letter.ended (λ M 𝓤. letter.clauses) (λ κs r e. e.0.now)
letter-once M 𝓤 𝓛 mem run κs a g = (_, λ r e. alone 𝓤)

pub held-once : Once held.ended (λ M 𝓤. held.clauses) (λ κs r e. r.now)
held-once M 𝓤 𝓛 mem run κs a g = (_, λ r e. alone 𝓤)

pub place-once : Once place.ended (λ M 𝓤. place.clauses) (λ κs r e. r & e.1.0.now)
place-once M 𝓤 𝓛 mem run κs a g = (_, λ r e. joined 𝓤 _ _ (alone 𝓤) (alone 𝓤))

pub read-digits-once : Once read-digits.ended (λ M 𝓤. read-digits.clauses) (λ κs r e. r)
read-digits-once M 𝓤 𝓛 mem run κs a g = (_, λ r e. first 𝓤 _ _)

pub byte-sum-once : Once byte-sum.ended (λ M 𝓤. byte-sum.clauses) (λ κs r e. r)
byte-sum-once M 𝓤 𝓛 mem run κs a g = (_, λ r e. alone 𝓤)
