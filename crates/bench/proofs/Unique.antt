-- No second number and no second lent byte satisfy the contract of what is timed: proved of the contract itself (octet's Once.antt).
use Rattle.octet.proofs.Once.{Once, alone, paired, by, both, ◌&◌}
use Rattle.bench.specs.contracts.bench_message as bench-message
use Rattle.bench.specs.contracts.bench_acknowledge as bench-acknowledge
use Rattle.bench.specs.contracts.bench_page as bench-page
use Rattle.bench.specs.contracts.bench_restart as bench-restart
use Rattle.bench.specs.contracts.bench_listing as bench-listing
use Rattle.bench.specs.contracts.bench_find as bench-find
use Rattle.bench.specs.contracts.bench_index as bench-index
use Rattle.bench.specs.contracts.bench_judge as bench-judge
use Rattle.bench.specs.contracts.bench_admit as bench-admit

pub message-one : Once bench-message.ended (λ M 𝓤. bench-message.clauses)
    (λ κs r e. r & e.1.1.1.1.1.1.1.1.1.1.0.now & e.1.1.1.1.1.1.1.1.1.1.1.0.now & e.1.1.1.1.1.1.1.1.1.1.1.1.0.now)
message-one M 𝓤 𝓛 mem run κs a g = (_, λ r e. by 𝓤 (λ p. both p.told (both p.booked (both p.replied p.noted))))

pub acknowledge-one : Once bench-acknowledge.ended (λ M 𝓤. bench-acknowledge.clauses)
    (λ κs r e. r & e.1.1.1.1.1.1.1.0.now & e.1.1.1.1.1.1.1.1.1.0.now)
acknowledge-one M 𝓤 𝓛 mem run κs a g = (_, λ r e. by 𝓤 (λ p. both p.told (both p.booked p.noted)))

pub page-one : Once bench-page.ended (λ M 𝓤. bench-page.clauses) (λ κs r e. r & e.1.1.1.1.0.now)
page-one M 𝓤 𝓛 mem run κs a g = (_, λ r e. paired 𝓤)

pub restart-one : Once bench-restart.ended (λ M 𝓤. bench-restart.clauses) (λ κs r e. r & e.0.now)
restart-one M 𝓤 𝓛 mem run κs a g = (_, λ r e. paired 𝓤)

pub listing-one : Once bench-listing.ended (λ M 𝓤. bench-listing.clauses) (λ κs r e. r & e.1.0.now & e.1.1.0.now)
listing-one M 𝓤 𝓛 mem run κs a g = (_, λ r e. by 𝓤 (λ p. both p.0 (both p.2 p.1)))

pub find-one : Once bench-find.ended (λ M 𝓤. bench-find.clauses) (λ κs r e. r)
find-one M 𝓤 𝓛 mem run κs a g = (_, λ r e. alone 𝓤)

pub index-one : Once bench-index.ended (λ M 𝓤. bench-index.clauses) (λ κs r e. r & e.1.0.now)
index-one M 𝓤 𝓛 mem run κs a g = (_, λ r e. by 𝓤 (λ p. both p.fault p.listed))

pub judge-one : Once bench-judge.ended (λ M 𝓤. bench-judge.clauses) (λ κs r e. r)
judge-one M 𝓤 𝓛 mem run κs a g = (_, λ r e. alone 𝓤)

pub admit-one : Once bench-admit.ended (λ M 𝓤. bench-admit.clauses) (λ κs r e. r)
admit-one M 𝓤 𝓛 mem run κs a g = (_, λ r e. alone 𝓤)
