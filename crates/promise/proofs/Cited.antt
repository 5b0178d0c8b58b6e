-- What `Held` says that the receiver's functions promise is what their contracts say: from each contract, as the prover reads it from the source, to `Promised`, whatever the caller
-- has that the function is not lent. So a contract that says less, or something else, is refused here.
use mathlib.Core.Path.{refl, sym}
use mathlib.Core.List.{List}
use Prim.Native.Nat.{ℕ}
use seplogic.Ra.Ura.{Ura}
use base.Logic.{SProp, ent}
use prog.Memory.{Memory}
use prog.Routine.{Routine}
use types.Logic.{Logic}
use contract.Monad.{Fun, fact}
use contract.Lifetimes.{Lfts}
use denote.Triple.Entry.{Args, Res}
use denote.Triple.Clauses.{Ended, AtExit}
use Rattle.octet.proofs.Cases.{true-not-false}
use Rattle.octet.proofs.Once.{Contract, by}
use Rattle.answer.specs.declared.Setup.{Setup}
use Rattle.session.specs.declared.Own.{Own}
use Rattle.session.specs.declared.Own.TheVariants.{Open, Beat, Ask, Close}
use Rattle.tally.specs.declared.Tally.{Tally}
use Rattle.receiver.specs.Receiver.{What, Own-call, Line-lost, Message, Offer, Begin-again, Acknowledge, New-day, Restart}
use Rattle.receiver.specs.declared.Told.{Told}
use Rattle.receiver.specs.contracts.open as opening
use Rattle.receiver.specs.contracts.heartbeat as heartbeat
use Rattle.receiver.specs.contracts.test_request as test-request
use Rattle.receiver.specs.contracts.close as close
use Rattle.receiver.specs.contracts.line_lost as line-lost
use Rattle.receiver.specs.contracts.message as message
use Rattle.receiver.specs.contracts.offer as offer
use Rattle.receiver.specs.contracts.begin_again as begin-again
use Rattle.receiver.specs.contracts.acknowledge as acknowledge
use Rattle.receiver.specs.contracts.new_day as new-day
use Rattle.receiver.specs.contracts.restart_from as restart-from
use Rattle.promise.specs.Held.{Asking, Back, Unlent, Promised}
use Rattle.promise.proofs.Executions.{none-some}

abbrev asking : Setup → What → List ℕ → List ℕ → List ℕ → Asking
asking setup w reply note line = record { setup = setup; what = w; reply = reply; note = note; line = line }

abbrev back : Told → Tally → List ℕ → List ℕ → List ℕ → List ℕ → Back
back r t book reply note line = record { told = r; tally = t; book = book; reply = reply; note = note; line = line }

-- whatever a contract is read in, and whatever is handed in and out: where the contract holds, so does P
abbrev pub Cites : (T : Ended) (c : Contract T) (P : (κs : Lfts T.signature.lifetimes) → Args T.signature κs → Res T.signature κs → AtExit T κs → Type 0) → Type 2
Cites T c P =
    (M : Type 1) (𝓤 : Ura M) (𝓛 : Logic 𝓤) (mem : Memory → SProp 𝓤) (run : Routine → Fun 𝓤)
    (κs : Lfts T.signature.lifetimes) (a : Args T.signature κs) (g : (c M 𝓤 𝓛 mem run κs a).ghost) (r : Res T.signature κs) (e : AtExit T κs)
    → ent 𝓤 ((c M 𝓤 𝓛 mem run κs a).ensures g r e) (fact 𝓤 (P κs a r e))

-- the caller's tally, book and buffers, as far as a function is not lent them
module _ (t : Tally) (book reply note line : List ℕ) where
  -- our own calls are lent a reply and a note buffer
  own-unlent : (setup : Setup) (own : Own) (time reply₀ note₀ reply₁ note₁ : List ℕ) (r : Told)
      → Unlent t (asking setup (Own-call own time) reply₀ note₀ line) (back r t book reply₁ note₁ line) (Own-call own time)
  own-unlent setup own time reply₀ note₀ reply₁ note₁ r = record { reply = λ x. true-not-false x; note = λ x. true-not-false x; line = λ x. refl; tally = λ x. refl }

  pub open-cited : Cites opening.ended (λ M 𝓤. opening.clauses) (λ κs a r e.
      Promised a.1.0 t book (asking a.0 (Own-call Open a.1.1.0.now) a.1.1.1.0.now a.1.1.1.1.0.now line)
      (back r t book e.1.1.1.0.now e.1.1.1.1.0.now line))
  open-cited M 𝓤 𝓛 mem run κs a g r e = by 𝓤 (λ p. ((p, refl), own-unlent _ _ _ _ _ _ _ _))

  pub heartbeat-cited : Cites heartbeat.ended (λ M 𝓤. heartbeat.clauses) (λ κs a r e.
      Promised a.1.0 t book (asking a.0 (Own-call Beat a.1.1.0.now) a.1.1.1.0.now a.1.1.1.1.0.now line)
      (back r t book e.1.1.1.0.now e.1.1.1.1.0.now line))
  heartbeat-cited M 𝓤 𝓛 mem run κs a g r e = by 𝓤 (λ p. ((p, refl), own-unlent _ _ _ _ _ _ _ _))

  pub test-request-cited : Cites test-request.ended (λ M 𝓤. test-request.clauses) (λ κs a r e.
      Promised a.1.0 t book (asking a.0 (Own-call Ask a.1.1.0.now) a.1.1.1.0.now a.1.1.1.1.0.now line)
      (back r t book e.1.1.1.0.now e.1.1.1.1.0.now line))
  test-request-cited M 𝓤 𝓛 mem run κs a g r e = by 𝓤 (λ p. ((p, refl), own-unlent _ _ _ _ _ _ _ _))

  pub close-cited : Cites close.ended (λ M 𝓤. close.clauses) (λ κs a r e.
      Promised a.1.0 t book (asking a.0 (Own-call Close a.1.1.0.now) a.1.1.1.0.now a.1.1.1.1.0.now line)
      (back r t book e.1.1.1.0.now e.1.1.1.1.0.now line))
  close-cited M 𝓤 𝓛 mem run κs a g r e = by 𝓤 (λ p. ((p, refl), own-unlent _ _ _ _ _ _ _ _))

  pub line-lost-cited : Cites line-lost.ended (λ M 𝓤. line-lost.clauses) (λ κs a r e.
      Promised a.1.0 t book (asking a.0 Line-lost reply note line) (back r t book reply note line))
  line-lost-cited M 𝓤 𝓛 mem run κs a g r e = by 𝓤 (λ p. ((p, refl), record { reply = λ x. refl; note = λ x. refl; line = λ x. refl; tally = λ x. refl }))

  pub begin-again-cited : Cites begin-again.ended (λ M 𝓤. begin-again.clauses) (λ κs a r e.
      Promised a.1.0 t book (asking a.0 Begin-again reply note line) (back r t book reply note line))
  begin-again-cited M 𝓤 𝓛 mem run κs a g r e = by 𝓤 (λ p. ((p, refl), record { reply = λ x. refl; note = λ x. refl; line = λ x. refl; tally = λ x. refl }))

  pub message-cited : Cites message.ended (λ M 𝓤. message.clauses) (λ κs a r e.
      Promised a.1.0 a.1.1.0.now a.1.1.1.1.1.0.now
      (asking a.0 (Message a.1.1.1.0.now a.1.1.1.1.0.now) a.1.1.1.1.1.1.0.now a.1.1.1.1.1.1.1.0.now line)
      (back r e.1.1.0.now e.1.1.1.1.1.0.now e.1.1.1.1.1.1.0.now e.1.1.1.1.1.1.1.0.now line))
  message-cited M 𝓤 𝓛 mem run κs a g r e =
      by 𝓤 (λ p. (p, record { reply = λ x. true-not-false x; note = λ x. true-not-false x; line = λ x. refl; tally = λ x. none-some _ (sym x) }))

  pub offer-cited : Cites offer.ended (λ M 𝓤. offer.clauses) (λ κs a r e.
      Promised a.1.0 t a.1.1.0.now (asking a.0 Offer reply note a.1.1.1.0.now) (back r t a.1.1.0.now reply note e.1.1.1.0.now))
  offer-cited M 𝓤 𝓛 mem run κs a g r e =
      by 𝓤 (λ p. ((p, refl), record { reply = λ x. refl; note = λ x. refl; line = λ x. true-not-false x; tally = λ x. refl }))

  pub acknowledge-cited : Cites acknowledge.ended (λ M 𝓤. acknowledge.clauses) (λ κs a r e.
      Promised a.1.0 t a.1.1.0.now (asking a.0 (Acknowledge a.1.1.1.0) reply a.1.1.1.1.0.now line)
      (back r t e.1.1.0.now reply e.1.1.1.1.0.now line))
  acknowledge-cited M 𝓤 𝓛 mem run κs a g r e =
      by 𝓤 (λ p. (p, record { reply = λ x. refl; note = λ x. true-not-false x; line = λ x. refl; tally = λ x. refl }))

  pub new-day-cited : Cites new-day.ended (λ M 𝓤. new-day.clauses) (λ κs a r e.
      Promised a.1.0 t a.1.1.0.now (asking a.0 New-day reply a.1.1.1.0.now line) (back r t e.1.1.0.now reply e.1.1.1.0.now line))
  new-day-cited M 𝓤 𝓛 mem run κs a g r e =
      by 𝓤 (λ p. (p, record { reply = λ x. refl; note = λ x. true-not-false x; line = λ x. refl; tally = λ x. refl }))

  pub restart-cited : Cites restart-from.ended (λ M 𝓤. restart-from.clauses) (λ κs a r e.
      Promised a.1.0 t a.1.1.0.now (asking a.0 (Restart a.1.1.1.0.now) reply note line) (back r t e.1.1.0.now reply note line))
  restart-cited M 𝓤 𝓛 mem run κs a g r e =
      by 𝓤 (λ p. (p, record { reply = λ x. refl; note = λ x. refl; line = λ x. refl; tally = λ x. refl }))
