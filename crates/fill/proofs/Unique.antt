-- No second answer, and no second lent bytes, satisfy the contract of a public function: proved of the contract itself (octet's Once.antt).
use Rattle.octet.proofs.Once.{Once, alone, first, joined, ◌&◌}
use Rattle.fill.specs.contracts.is_fill as is-fill
use Rattle.fill.specs.contracts.is_entry as is-entry
use Rattle.fill.specs.contracts.entries.key_of as key_of
use Rattle.fill.specs.contracts.entries.entry_with as entry-with
use Rattle.fill.specs.contracts.exec_of as exec_of
use Rattle.fill.specs.contracts.order_of as order-of
use Rattle.fill.specs.contracts.symbol_of as symbol-of
use Rattle.fill.specs.contracts.side_of as side-of
use Rattle.fill.specs.contracts.shares_of as shares_of
use Rattle.fill.specs.contracts.price_of as price-of
use Rattle.fill.specs.contracts.cum_of as cum-of
use Rattle.fill.specs.contracts.slot_with as slot-with
use Rattle.fill.specs.contracts.is_lawful as is_lawful
use Rattle.fill.specs.contracts.line_least as line-least
use Rattle.fill.specs.contracts.write_line as write-line

pub is-fill-one : Once is-fill.ended (λ M 𝓤. is-fill.clauses) (λ κs r e. r)
is-fill-one M 𝓤 𝓛 mem run κs a g = (_, λ r e. alone 𝓤)

pub is-entry-one : Once is-entry.ended (λ M 𝓤. is-entry.clauses) (λ κs r e. r)
is-entry-one M 𝓤 𝓛 mem run κs a g = (_, λ r e. alone 𝓤)

pub key-of-one : Once key_of.ended (λ M 𝓤. key_of.clauses) (λ κs r e. r.now)
key-of-one M 𝓤 𝓛 mem run κs a g = (_, λ r e. alone 𝓤)

pub entry-with-one : Once entry-with.ended (λ M 𝓤. entry-with.clauses) (λ κs r e. r)
entry-with-one M 𝓤 𝓛 mem run κs a g = (_, λ r e. alone 𝓤)

pub exec-of-one : Once exec_of.ended (λ M 𝓤. exec_of.clauses) (λ κs r e. r.now)
exec-of-one M 𝓤 𝓛 mem run κs a g = (_, λ r e. alone 𝓤)

pub order-of-one : Once order-of.ended (λ M 𝓤. order-of.clauses) (λ κs r e. r.now)
order-of-one M 𝓤 𝓛 mem run κs a g = (_, λ r e. alone 𝓤)

pub symbol-of-one : Once symbol-of.ended (λ M 𝓤. symbol-of.clauses) (λ κs r e. r.now)
symbol-of-one M 𝓤 𝓛 mem run κs a g = (_, λ r e. alone 𝓤)

pub side-of-one : Once side-of.ended (λ M 𝓤. side-of.clauses) (λ κs r e. r)
side-of-one M 𝓤 𝓛 mem run κs a g = (_, λ r e. alone 𝓤)

pub shares-of-one : Once shares_of.ended (λ M 𝓤. shares_of.clauses) (λ κs r e. r)
shares-of-one M 𝓤 𝓛 mem run κs a g = (_, λ r e. alone 𝓤)

pub price-of-one : Once price-of.ended (λ M 𝓤. price-of.clauses) (λ κs r e. r)
price-of-one M 𝓤 𝓛 mem run κs a g = (_, λ r e. alone 𝓤)

pub cum-of-one : Once cum-of.ended (λ M 𝓤. cum-of.clauses) (λ κs r e. r)
cum-of-one M 𝓤 𝓛 mem run κs a g = (_, λ r e. alone 𝓤)

pub slot-with-one : Once slot-with.ended (λ M 𝓤. slot-with.clauses) (λ κs r e. r)
slot-with-one M 𝓤 𝓛 mem run κs a g = (_, λ r e. alone 𝓤)

pub is-lawful-one : Once is_lawful.ended (λ M 𝓤. is_lawful.clauses) (λ κs r e. r)
is-lawful-one M 𝓤 𝓛 mem run κs a g = (_, λ r e. alone 𝓤)

pub line-least-one : Once line-least.ended (λ M 𝓤. line-least.clauses) (λ κs r e. r)
line-least-one M 𝓤 𝓛 mem run κs a g = (_, λ r e. alone 𝓤)

pub write-line-one : Once write-line.ended (λ M 𝓤. write-line.clauses) (λ κs r e. r & e.1.1.0.now)
write-line-one M 𝓤 𝓛 mem run κs a g = (_, λ r e. joined 𝓤 _ _ (alone 𝓤) (first 𝓤 _ _))
