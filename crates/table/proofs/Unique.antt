-- No second answer satisfies the contract of a public function: proved of the contract itself (octet's Once.antt).
use mathlib.Core.Path.{◌≡◌, refl, sym, ap, ◌∙◌}
use mathlib.Core.Option.{Option, none, some}
use Rattle.answer.specs.declared.Fault.{Fault}
use Rattle.std.specs.Prelude.{Result, Ok, Err}
use Rattle.table.specs.Steps.{found}
use Rattle.octet.proofs.Once.{Once, alone, by, first}
use Rattle.table.specs.contracts.rows.kind_of as kind-of
use Rattle.table.specs.contracts.walk.number_at as number_at
use Rattle.table.specs.contracts.fault_in as fault-in

-- a judgement is known by its fault
abbrev pub judged : Option Fault → Result Unit Fault
judged none = Ok tt
judged (some f) = Err f

pub judged-found : (r : Result Unit Fault) → judged (found r) ≡ r
judged-found (Ok tt) = refl
judged-found (Err f) = refl

pub kind-of-once : Once kind-of.ended (λ M 𝓤. kind-of.clauses) (λ κs r e. r)
kind-of-once M 𝓤 𝓛 mem run κs a g = (_, λ r e. alone 𝓤)

pub number-at-once : Once number_at.ended (λ M 𝓤. number_at.clauses) (λ κs r e. r)
number-at-once M 𝓤 𝓛 mem run κs a g = (_, λ r e. first 𝓤 _ _)

pub fault-in-once : Once fault-in.ended (λ M 𝓤. fault-in.clauses) (λ κs r e. r)
fault-in-once M 𝓤 𝓛 mem run κs a g = (_, λ r e. by 𝓤 (λ p. sym (judged-found r) ∙ ap judged p))
