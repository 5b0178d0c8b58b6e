-- No second answer, and no second lent bytes, satisfy the contract of a public function: see Once.antt.
use Rattle.octet.proofs.Once.{Once, alone, paired, ◌&◌}
use Rattle.octet.specs.contracts.byte_at as byte_at
use Rattle.octet.specs.contracts.agree as agree
use Rattle.octet.specs.contracts.same as same
use Rattle.octet.specs.contracts.part as part
use Rattle.octet.specs.contracts.word_at as word_at
use Rattle.octet.specs.contracts.until as until
use Rattle.octet.specs.contracts.until_far as until-far
use Rattle.octet.specs.contracts.run_in as run_in
use Rattle.octet.specs.contracts.run_far as run-far
use Rattle.octet.specs.contracts.all_in as all_in
use Rattle.octet.specs.contracts.copy_into as copy-into
use Rattle.octet.specs.contracts.four_at as four-at
use Rattle.octet.specs.contracts.eight_at as eight-at
use Rattle.octet.specs.contracts.put_four as put_four
use Rattle.octet.specs.contracts.put_eight as put-eight
use Rattle.octet.specs.contracts.put_zeros as put-zeros
use Rattle.octet.specs.contracts.put_padded as put-padded
use Rattle.octet.specs.contracts.text_of as text_of
use Rattle.octet.specs.contracts.padded_ok as padded-ok

pub byte-at-one : Once byte_at.ended (λ M 𝓤. byte_at.clauses) (λ κs r e. r)
byte-at-one M 𝓤 𝓛 mem run κs a g = (_, λ r e. alone 𝓤)

pub agree-one : Once agree.ended (λ M 𝓤. agree.clauses) (λ κs r e. r)
agree-one M 𝓤 𝓛 mem run κs a g = (_, λ r e. alone 𝓤)

pub same-one : Once same.ended (λ M 𝓤. same.clauses) (λ κs r e. r)
same-one M 𝓤 𝓛 mem run κs a g = (_, λ r e. alone 𝓤)

pub part-one : Once part.ended (λ M 𝓤. part.clauses) (λ κs r e. r.now)
part-one M 𝓤 𝓛 mem run κs a g = (_, λ r e. alone 𝓤)

pub word-at-one : Once word_at.ended (λ M 𝓤. word_at.clauses) (λ κs r e. r)
word-at-one M 𝓤 𝓛 mem run κs a g = (_, λ r e. alone 𝓤)

pub until-one : Once until.ended (λ M 𝓤. until.clauses) (λ κs r e. r)
until-one M 𝓤 𝓛 mem run κs a g = (_, λ r e. alone 𝓤)

pub until-far-one : Once until-far.ended (λ M 𝓤. until-far.clauses) (λ κs r e. r)
until-far-one M 𝓤 𝓛 mem run κs a g = (_, λ r e. alone 𝓤)

pub run-in-one : Once run_in.ended (λ M 𝓤. run_in.clauses) (λ κs r e. r)
run-in-one M 𝓤 𝓛 mem run κs a g = (_, λ r e. alone 𝓤)

pub run-far-one : Once run-far.ended (λ M 𝓤. run-far.clauses) (λ κs r e. r)
run-far-one M 𝓤 𝓛 mem run κs a g = (_, λ r e. alone 𝓤)

pub all-in-one : Once all_in.ended (λ M 𝓤. all_in.clauses) (λ κs r e. r)
all-in-one M 𝓤 𝓛 mem run κs a g = (_, λ r e. alone 𝓤)

pub copy-into-one : Once copy-into.ended (λ M 𝓤. copy-into.clauses) (λ κs r e. r & e.0.now)
copy-into-one M 𝓤 𝓛 mem run κs a g = (_, λ r e. paired 𝓤)

pub four-at-one : Once four-at.ended (λ M 𝓤. four-at.clauses) (λ κs r e. r)
four-at-one M 𝓤 𝓛 mem run κs a g = (_, λ r e. alone 𝓤)

pub eight-at-one : Once eight-at.ended (λ M 𝓤. eight-at.clauses) (λ κs r e. r)
eight-at-one M 𝓤 𝓛 mem run κs a g = (_, λ r e. alone 𝓤)

pub put-four-one : Once put_four.ended (λ M 𝓤. put_four.clauses) (λ κs r e. r & e.0.now)
put-four-one M 𝓤 𝓛 mem run κs a g = (_, λ r e. paired 𝓤)

pub put-eight-one : Once put-eight.ended (λ M 𝓤. put-eight.clauses) (λ κs r e. r & e.0.now)
put-eight-one M 𝓤 𝓛 mem run κs a g = (_, λ r e. paired 𝓤)

pub put-zeros-one : Once put-zeros.ended (λ M 𝓤. put-zeros.clauses) (λ κs r e. r & e.0.now)
put-zeros-one M 𝓤 𝓛 mem run κs a g = (_, λ r e. paired 𝓤)

pub put-padded-one : Once put-padded.ended (λ M 𝓤. put-padded.clauses) (λ κs r e. r & e.0.now)
put-padded-one M 𝓤 𝓛 mem run κs a g = (_, λ r e. paired 𝓤)

pub text-of-one : Once text_of.ended (λ M 𝓤. text_of.clauses) (λ κs r e. r.now)
text-of-one M 𝓤 𝓛 mem run κs a g = (_, λ r e. alone 𝓤)

pub padded-ok-one : Once padded-ok.ended (λ M 𝓤. padded-ok.clauses) (λ κs r e. r)
padded-ok-one M 𝓤 𝓛 mem run κs a g = (_, λ r e. alone 𝓤)
