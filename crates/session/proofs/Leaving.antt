-- "Steps 1 to 3 leave E except where said": what they settle, case by case.
use Prim.Native.Nat.{ℕ}
use mathlib.Core.Path.{◌≡◌, refl, sym, subst}
use mathlib.Core.Option.{Option, none, some}
use mathlib.Core.Bool.{Bool, true, false, cond, ◌&&◌, not}
use lib.Dec.{leb, eqb}
use Rattle.octet.specs.Maybe.{is_none}
use Rattle.octet.proofs.Cases.{true-not-false}
use Rattle.answer.specs.Numbers.{counted, inside, is_kind}
use Rattle.answer.specs.declared.Fault.{Fault}
use Rattle.answer.specs.declared.Phase.{Phase}
use Rattle.answer.specs.declared.Phase.TheVariants as phase
use Rattle.answer.specs.declared.Kind.TheVariants as kind
use Rattle.answer.specs.declared.Outcome.TheVariants as outcome
use Rattle.wire.specs.declared.Reply.TheVariants.{Nothing}
use Rattle.session.specs.Session.{judged}
use Rattle.session.specs.Reading.{Facts, facts_in}
use Rattle.session.specs.Judging.{ended, rejected_ended, logon, step3, by_phase, step2, step1, judged_by, judge}
use Rattle.session.specs.Leaving.{before4, raises, Steps1to3}
use Rattle.session.specs.declared.Session.{Session}
use Rattle.session.specs.declared.Judged.{Judged}
use Rattle.session.specs.declared.Verdict.{Verdict}
use Rattle.session.specs.declared.Verdict.TheVariants.{Settled}

-- a verdict that settles the message, and E after it
abbrev Leaves : Session → Bool → Verdict → Type 0
Leaves s up v = (j : Judged) × (v ≡ Settled j) × (j.next.e ≡ cond up (counted s.e 1) s.e)

e-of : (c : Bool) (x y : Judged) → (cond c x y).next.e ≡ cond c x.next.e y.next.e
e-of true x y = refl
e-of false x y = refl

module _ (s : Session) (m : Facts) (n : ℕ) where
  logon-leaves : (a : Bool) (f : Option Fault) → (cond a (logon s n f) (ended s)).next.e ≡ cond (a && is_none f && eqb n s.e) (counted s.e 1) s.e
  logon-leaves false f = refl
  logon-leaves true (some f) = refl
  logon-leaves true none = e-of (eqb n s.e) _ _

  phase-leaves : (p : Phase) → not (inside p) ≡ true → Leaves s (raises s m (some n) none p) (by_phase p s n m)
  unfolding by_phase step3
  phase-leaves phase.Out h = (judged outcome.Dropped Nothing s, refl, refl)
  phase-leaves phase.Sent h = (step3 s n m, refl, logon-leaves (is_kind m.kind kind.Logon && leb s.e n) m.fault)
  phase-leaves phase.In h = true-not-false (sym h)
  phase-leaves phase.Ended h = (judged outcome.Dropped Nothing s, refl, refl)
  phase-leaves phase.Closing h = true-not-false (sym h)

  ids-leave : (f : Option Fault) (p : Phase) → s.phase ≡ p → before4 (some n) f p ≡ true → Leaves s (raises s m (some n) f p) (step2 s n m f)
  ids-leave (some f) p e h = (rejected_ended s n f, refl, refl)
  ids-leave none p e h = subst (λ (q : Phase). Leaves s (raises s m (some n) none p) (by_phase q s n m)) (sym e) (phase-leaves p h)

number-leaves : (s : Session) (m : Facts) (o : Option ℕ) → before4 o m.ids s.phase ≡ true → Leaves s (raises s m o m.ids s.phase) (step1 s m o)
number-leaves s m none h = (ended s, refl, refl)
number-leaves s m (some n) h = ids-leave s m n m.ids s.phase refl h

pub steps-1-to-3 : Steps1to3
unfolding judge judged_by
steps-1-to-3 setup s ps h =
    let m = facts_in setup s ps in
    let x = number-leaves s m m.seq h in
    record { judged = x.0; settled = x.1; expected = x.2 }
