-- No second answer, and no second lent bytes, satisfy the contract of a public function: proved of the contract itself (octet's Once.antt).
use Rattle.octet.proofs.Once.{Once, alone, paired, first, ◌&◌}
use Rattle.book.specs.contracts.admit as admit
use Rattle.book.specs.contracts.book_len as book-len
use Rattle.book.specs.contracts.enter as enter
use Rattle.book.specs.contracts.put_day as put-day
use Rattle.book.specs.contracts.rows.day_with as day-with
use Rattle.book.specs.contracts.rows.head_of as head_of
use Rattle.book.specs.contracts.rows.row_in as row_in
use Rattle.book.specs.contracts.rows.take_off as take-off
use Rattle.book.specs.contracts.rows.waits_in as waits-in
use Rattle.book.specs.contracts.slot_at as slot_at

pub admit-one : Once admit.ended (λ M 𝓤. admit.clauses) (λ κs r e. r)
admit-one M 𝓤 𝓛 mem run κs a g = (_, λ r e. alone 𝓤)

pub enter_one : Once enter.ended (λ M 𝓤. enter.clauses) (λ κs r e. e.0.now)
enter_one M 𝓤 𝓛 mem run κs a g = (_, λ r e. alone 𝓤)

pub take-off-one : Once take-off.ended (λ M 𝓤. take-off.clauses) (λ κs r e. r & e.0.now)
take-off-one M 𝓤 𝓛 mem run κs a g = (_, λ r e. paired 𝓤)

pub head-of-one : Once head_of.ended (λ M 𝓤. head_of.clauses) (λ κs r e. r.now)
head-of-one M 𝓤 𝓛 mem run κs a g = (_, λ r e. alone 𝓤)

pub waits-in-one : Once waits-in.ended (λ M 𝓤. waits-in.clauses) (λ κs r e. r)
waits-in-one M 𝓤 𝓛 mem run κs a g = (_, λ r e. alone 𝓤)

pub slot-at-one : Once slot_at.ended (λ M 𝓤. slot_at.clauses) (λ κs r e. r.now)
slot-at-one M 𝓤 𝓛 mem run κs a g = (_, λ r e. alone 𝓤)

pub put-day-one : Once put-day.ended (λ M 𝓤. put-day.clauses) (λ κs r e. e.0.now)
put-day-one M 𝓤 𝓛 mem run κs a g = (_, λ r e. first 𝓤 _ _)

pub book-len-one : Once book-len.ended (λ M 𝓤. book-len.clauses) (λ κs r e. r)
book-len-one M 𝓤 𝓛 mem run κs a g = (_, λ r e. first 𝓤 _ _)

pub row-in-one : Once row_in.ended (λ M 𝓤. row_in.clauses) (λ κs r e. r.now)
row-in-one M 𝓤 𝓛 mem run κs a g = (_, λ r e. alone 𝓤)

pub day-with-one : Once day-with.ended (λ M 𝓤. day-with.clauses) (λ κs r e. r)
day-with-one M 𝓤 𝓛 mem run κs a g = (_, λ r e. alone 𝓤)
