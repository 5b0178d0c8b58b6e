-- No second answer and no second lent byte: what that means of a function's own contract.
-- The prover makes a module of each function f of a crate (`Rattle.CRATE.specs.contracts.PATH.f`). In it `ended` is the signature, and `clauses` is the contract as it
-- stands in the source. `Once f.ended (λ M 𝓤. f.clauses) d` speaks of this very contract and not of a copy: where an `ensures` is made weaker, it is weaker here, and the
-- theorem is not proved any more. So the two cannot drift apart.
--     T                        the function's signature: its lifetimes, its parameters, its result
--     c                        its contract
--     M, 𝓤, 𝓛, mem, run        what a contract is read in, whatever it is: resources, their algebra, a heap with lifetimes and borrows, what memory holds, what a routine does
--     κs, a, g                 what is handed in: the lifetimes, the arguments with what they lend, and the contract's ghost variables, of which no public function has one
--     r, e                     what is handed out: the result, and the parameters at exit, each in its place: e.0, e.1.0, e.1.1.0, ..
--     d                        all that a caller gets of these: the result (`r`; `r.now` where it lends something) and what each `&mut` parameter lends at exit (`e.0.now`),
--                              joined by &; tests/promises holds it to the signature, so that nothing is left out
--     v                        the one value for what is handed in: wherever the contract holds of r and e, what d takes of them is v
-- `no_second` says what follows: two answers that both meet the contract are one.
-- The proofs, by the form of the contract:
--     alone      one equation
--     paired     two equations, of the result and of what is lent
--     by f       a named promise, from which f gives the equation; `both` makes one equation of two
--     first      two clauses, of which the first is the equation
--     joined     two clauses, of what is lent and of the result
use mathlib.Core.Path.{◌≡◌, sym, ◌∙◌}
use seplogic.Ra.Ura.{Ura}
use base.Logic.{SProp, ent, sep, via, id⊢, fst∗, snd∗}
use prog.Memory.{Memory}
use prog.Routine.{Routine}
use types.Logic.{Logic}
use contract.Monad.{Fun, fact, fact_i, fact_mono, fact_use, conj, conj_l, conj_r}
use contract.Lifetimes.{Lfts}
use denote.Triple.Entry.{Args, Res}
use denote.Triple.Clauses.{Ended, Clauses, AtExit}

-- a contract, whatever it is read in
abbrev pub Contract : Ended → Type 2
Contract T = (M : Type 1) (𝓤 : Ura M) → (𝓛 : Logic 𝓤) → (Memory → SProp 𝓤) → (Routine → Fun 𝓤) → Clauses 𝓤 T

abbrev pub Once : (T : Ended) (c : Contract T) {D : Type 0} (d : (κs : Lfts T.signature.lifetimes) → Res T.signature κs → AtExit T κs → D) → Type 2
Once T c {D} d =
    (M : Type 1) (𝓤 : Ura M) (𝓛 : Logic 𝓤) (mem : Memory → SProp 𝓤) (run : Routine → Fun 𝓤)
    (κs : Lfts T.signature.lifetimes) (a : Args T.signature κs) (g : (c M 𝓤 𝓛 mem run κs a).ghost)
    → (v : D) × ((r : Res T.signature κs) (e : AtExit T κs) → ent 𝓤 ((c M 𝓤 𝓛 mem run κs a).ensures g r e) (fact 𝓤 (d κs r e ≡ v)))

-- two parts of what is handed out
infixr 40 ◌&◌
abbrev pub ◌&◌ : {A B : Type 0} → A → B → A × B
a & b = (a, b)

pub both : {A B : Type 0} {a a' : A} {b b' : B} → a ≡ a' → b ≡ b' → a & b ≡ a' & b'
both p q i = (p i, q i)

module _ {M : Type 1} (𝓤 : Ura M) where
  abbrev pub alone : {φ : Type 0} → ent 𝓤 (fact 𝓤 φ) (fact 𝓤 φ)
  alone = id⊢ 𝓤 _

  abbrev pub by : {φ ψ : Type 0} → (φ → ψ) → ent 𝓤 (fact 𝓤 φ) (fact 𝓤 ψ)
  by f = fact_mono 𝓤 _ _ f

  abbrev pub paired : {A B : Type 0} {a a' : A} {b b' : B} → ent 𝓤 (fact 𝓤 ((a ≡ a') × (b ≡ b'))) (fact 𝓤 (a & b ≡ a' & b'))
  paired = by (λ p. both p.0 p.1)

  abbrev pub first : (φ ψ : Type 0) → ent 𝓤 (sep 𝓤 (fact 𝓤 φ) (fact 𝓤 ψ)) (fact 𝓤 φ)
  first φ ψ = fst∗ 𝓤 (fact 𝓤 φ) (fact 𝓤 ψ)

  -- of two facts a third
  also : {φ ψ χ : Type 0} (P : SProp 𝓤) → ent 𝓤 P (fact 𝓤 φ) → ent 𝓤 P (fact 𝓤 ψ) → (φ → ψ → χ) → ent 𝓤 P (fact 𝓤 χ)
  also P h k f = fact_use 𝓤 _ h (λ x. fact_use 𝓤 _ k (λ y. fact_i 𝓤 _ P (f x y)))

  pub joined : {A B : Type 0} {a a' : A} {b b' : B} (P Q : SProp 𝓤) → ent 𝓤 P (fact 𝓤 (b ≡ b')) → ent 𝓤 Q (fact 𝓤 (a ≡ a')) → ent 𝓤 (sep 𝓤 P Q) (fact 𝓤 (a & b ≡ a' & b'))
  joined P Q h k = also (sep 𝓤 P Q) (via 𝓤 P (fst∗ 𝓤 P Q) h) (via 𝓤 Q (snd∗ 𝓤 P Q) k) (λ q p. both p q)

-- where the contract holds of both r and e and r' and e', these are handed out alike
pub no_second : (T : Ended) (c : Contract T) {D : Type 0} (d : (κs : Lfts T.signature.lifetimes) → Res T.signature κs → AtExit T κs → D) → Once T c d
    → {M : Type 1} {𝓤 : Ura M} (𝓛 : Logic 𝓤) (mem : Memory → SProp 𝓤) (run : Routine → Fun 𝓤)
    (κs : Lfts T.signature.lifetimes) (a : Args T.signature κs) (g : (c M 𝓤 𝓛 mem run κs a).ghost) (r r' : Res T.signature κs) (e e' : AtExit T κs)
    → ent 𝓤 (conj 𝓤 ((c M 𝓤 𝓛 mem run κs a).ensures g r e) ((c M 𝓤 𝓛 mem run κs a).ensures g r' e')) (fact 𝓤 (d κs r e ≡ d κs r' e'))
no_second T c d once {M} {𝓤 = 𝓤} 𝓛 mem run κs a g r r' e e' =
    let P = (c M 𝓤 𝓛 mem run κs a).ensures g r e in
    let Q = (c M 𝓤 𝓛 mem run κs a).ensures g r' e' in
    let said = (once M 𝓤 𝓛 mem run κs a g).1 in
    also 𝓤 (conj 𝓤 P Q) (via 𝓤 P (conj_l 𝓤 P Q) (said r e)) (via 𝓤 Q (conj_r 𝓤 P Q) (said r' e')) (λ p q. p ∙ sym q)
