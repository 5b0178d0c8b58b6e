-- No second answer satisfies the contract of a public function: proved of the contract itself (octet's Once.antt).
use mathlib.Core.Path.{◌≡◌, refl, sym, ap, ◌∙◌}
use mathlib.Core.Option.{Option, none, some}
use Prim.Native.Nat.{ℕ}
use Rattle.std.specs.Prelude.{Some, None, Option as Optional}
use Rattle.table.proofs.Unique.{judged, judged-found}
use Rattle.session.specs.Reading.{Facts, numbered, facts}
use Rattle.session.specs.declared.Findings.{Findings}
use Rattle.octet.proofs.Once.{Once, alone, by}
use Rattle.session.specs.contracts.own_calls.says as says
use Rattle.session.specs.contracts.Session.fresh as fresh
use Rattle.session.specs.contracts.Session.is_off as is-off
use Rattle.session.specs.contracts.Session.is_on as is-on
use Rattle.session.specs.contracts.Session.may_call as may-call
use Rattle.session.specs.contracts.Session.own as own
use Rattle.session.specs.contracts.Session.line_lost as line-lost
use Rattle.session.specs.contracts.Session.rejected as rejected
use Rattle.session.specs.contracts.Session.passed as passed
use Rattle.session.specs.contracts.reading.findings_of as findings-of
use Rattle.session.specs.contracts.Session.judge as judge
use Rattle.session.specs.contracts.judging.word_tag as word-tag

-- what was read is known by its facts: a number, and a judgement by its fault
abbrev read : Option ℕ → Optional ℕ
read (some n) = Some n
read none = None

read-numbered : (n : Optional ℕ) → read (numbered n) ≡ n
read-numbered (Some n) = refl
read-numbered None = refl

abbrev known : Facts → Findings
known f = record {
  kind = f.kind;
  seq = read f.seq;
  ids = judged f.ids;
  fault = judged f.fault;
  again = f.again;
  filling = f.filling;
  from = f.from;
  last = f.up_to;
  to = f.to;
}

known_facts : (r : Findings) → known (facts r) ≡ r
known_facts r = λ i. record {
  kind = r.kind;
  seq = read-numbered r.seq i;
  ids = judged-found r.ids i;
  fault = judged-found r.fault i;
  again = r.again;
  filling = r.filling;
  from = r.from;
  last = r.last;
  to = r.to;
}

pub says-once : Once says.ended (λ M 𝓤. says.clauses) (λ κs r e. r)
says-once M 𝓤 𝓛 mem run κs a g = (_, λ r e. alone 𝓤)

pub fresh-once : Once fresh.ended (λ M 𝓤. fresh.clauses) (λ κs r e. r)
fresh-once M 𝓤 𝓛 mem run κs a g = (_, λ r e. alone 𝓤)

pub is-off-once : Once is-off.ended (λ M 𝓤. is-off.clauses) (λ κs r e. r)
is-off-once M 𝓤 𝓛 mem run κs a g = (_, λ r e. alone 𝓤)

pub is-on-once : Once is-on.ended (λ M 𝓤. is-on.clauses) (λ κs r e. r)
is-on-once M 𝓤 𝓛 mem run κs a g = (_, λ r e. alone 𝓤)

pub may-call-once : Once may-call.ended (λ M 𝓤. may-call.clauses) (λ κs r e. r)
may-call-once M 𝓤 𝓛 mem run κs a g = (_, λ r e. alone 𝓤)

pub own-once : Once own.ended (λ M 𝓤. own.clauses) (λ κs r e. r)
own-once M 𝓤 𝓛 mem run κs a g = (_, λ r e. alone 𝓤)

pub line-lost-once : Once line-lost.ended (λ M 𝓤. line-lost.clauses) (λ κs r e. r)
line-lost-once M 𝓤 𝓛 mem run κs a g = (_, λ r e. alone 𝓤)

pub rejected-once : Once rejected.ended (λ M 𝓤. rejected.clauses) (λ κs r e. r)
rejected-once M 𝓤 𝓛 mem run κs a g = (_, λ r e. alone 𝓤)

pub passed-once : Once passed.ended (λ M 𝓤. passed.clauses) (λ κs r e. r)
passed-once M 𝓤 𝓛 mem run κs a g = (_, λ r e. alone 𝓤)

pub findings-of-once : Once findings-of.ended (λ M 𝓤. findings-of.clauses) (λ κs r e. r)
findings-of-once M 𝓤 𝓛 mem run κs a g = (_, λ r e. by 𝓤 (λ p. sym (known_facts r) ∙ ap known p))

pub judge-once : Once judge.ended (λ M 𝓤. judge.clauses) (λ κs r e. r)
judge-once M 𝓤 𝓛 mem run κs a g = (_, λ r e. alone 𝓤)

pub word-tag-once : Once word-tag.ended (λ M 𝓤. word-tag.clauses) (λ κs r e. r)
word-tag-once M 𝓤 𝓛 mem run κs a g = (_, λ r e. alone 𝓤)
