-- What a verdict says of the numbers.
--     seq-read, facts-read, facts-read-in     the number that was read is 1 to 999,999,998, and 36's is at most 999,999,999
--     report-turn, correction-turn     a report and a correction about which the book is asked is in its turn and faultless
--     turn-asked     a faultless message in its turn has its type's effect
--     judge-report, judge-correction, judge-asks, judge-asks-correction     the same of a message by its pieces
--     settled-numbers, own-numbers, rejected-numbers, passed-numbers     E and O are not lowered, and stay within nine digits
use mathlib.Core.Path.{◌≡◌, refl, sym, ap, ◌∙◌, subst}
use mathlib.Core.List.{List}
use mathlib.Core.Option.{Option, none, some}
use mathlib.Core.Bool.{Bool, true, false, cond, ◌&&◌, ◌||◌}
use Prim.Native.Nat.{ℕ, ◌+◌, ◌-◌, ◌≤◌}
use native.Mathlib.Omega.{arith}
use lib.Dec.{leb, ltb, eqb}
use borrow.Author.Tests.{eq-eqb, eqb-true, ltb-true}
use Rattle.octet.proofs.Cases.{of-cond, true-not-false, or_right}
use Rattle.value.specs.Readers.{number_read}
use Rattle.std.specs.Prelude.{Result, Ok, Err}
use Rattle.value.specs.declared.Flaw.{Flaw}
use Rattle.value.specs.declared.Flaw.TheVariants.{Form, Range}
use Rattle.value.proofs.Numbers.{number-good, number-or-small}
use Rattle.field.specs.Pieces.{Pieces, Scan, first_of, scan_of}
use Rattle.field.specs.Look.{Look, look_of, first}
use Rattle.field.proofs.Looks.{first-of}
use Rattle.table.specs.Rows.{kind_in}
use Rattle.table.specs.Steps.{fault_in}
use Rattle.answer.specs.Numbers.{fault, inside, is_kind}
use Rattle.answer.specs.declared.Setup.{Setup}
use Rattle.answer.specs.declared.Phase.{Phase}
use Rattle.answer.specs.declared.Phase.TheVariants as phase
use Rattle.answer.specs.declared.Kind.{Kind}
use Rattle.answer.specs.declared.Kind.TheVariants as kind
use Rattle.answer.specs.declared.Fault.{Fault}
use Rattle.answer.specs.declared.Outcome.{Outcome}
use Rattle.answer.specs.declared.Outcome.TheVariants as outcome
use Rattle.wire.specs.Messages.{uses, used_by, is_gap_fill}
use Rattle.wire.specs.declared.Say.{Say}
use Rattle.wire.specs.declared.Say.TheVariants as say
use Rattle.wire.specs.declared.Reply.{Reply}
use Rattle.wire.specs.declared.Reply.TheVariants.{Nothing, One, Two}
use Rattle.session.specs.Session.{into, expecting, asking, raised, judged, is_in, says, own_call}
use Rattle.session.specs.Reading.{Facts, number_if, seq_given, ids_given, facts_of, facts_in}
use Rattle.session.specs.Judging.{ended, rejected_ended, gap_reply, answered, gap_fill, logon, step3, reset_mode, rejected_if, rejected, passed, moved, logged_out, effect, in_turn, below, gap, due, step4, by_phase, step2, step1, judged_by, judge}
use Rattle.session.specs.declared.Own.{Own}
use Rattle.session.specs.declared.Session.{Session}
use Rattle.session.specs.declared.Judged.{Judged}
use Rattle.session.specs.declared.Verdict.{Verdict}
use Rattle.session.specs.declared.Verdict.TheVariants.{Settled, Report, Correction}

-- ---- what is read is small

read-value : (n : ℕ) (r : Result ℕ Flaw) → number_if r ≡ some n → r ≡ Ok n
read-value n (Ok k) e = cc
read-value n (Err (Form at)) e = cc
read-value n (Err Range) e = cc

pub seq-read : (v : Option (List ℕ)) (n : ℕ) → seq_given v ≡ some n → (1 ≤ n) × (n ≤ 999999998)
seq-read none n e = let z : ◌≡◌ {A = ℕ} 0 1 = cc in absurd (omega arith)
seq-read (some v) n e =
    let good = number-good 1 999999998 v n (read-value n (number_read 1 999999998 v) e) in
    (good.least, good.most)

pub record Read (m : Facts) : Type 0 where
  pub seq : (n : ℕ) → m.seq ≡ some n → (1 ≤ n) × (n ≤ 999999998)
  pub to : m.to ≤ 999999999

module _ (setup : Setup) (s : Session) where
  pub facts-read : (scan : Scan) (look : Look) → Read (facts_of setup s scan look)
  unfolding facts_of
  facts-read scan look = record { seq = λ n e. seq-read (first look 34) n e; to = number-or-small _ }

  pub facts-read-in : (ps : Pieces) → Read (facts_in setup s ps)
  unfolding facts_in
  facts-read-in ps = facts-read (scan_of ps) (look_of ps)

-- ---- a report and a correction

-- a message that is a faultless one of a type in its turn
pub record Turn (s : Session) (m : Facts) (k : Kind) (n : ℕ) : Type 0 where
  pub seq : m.seq ≡ some n
  pub ids : m.ids ≡ none
  pub phase : inside s.phase ≡ true
  pub number : n ≡ s.e
  pub kind : m.kind ≡ k
  pub fault : m.fault ≡ none

abbrev Says : Session → Facts → Verdict → Type 0
Says s m (Settled j) = Unit {0}
Says s m (Report n) = Turn s m kind.Report n
Says s m (Correction n) = Turn s m kind.Correction n

module _ (s : Session) (m : Facts) (n : ℕ) (seq : m.seq ≡ some n) (ids : m.ids ≡ none) (p : inside s.phase ≡ true) where
  effect-says : (k : Kind) → m.kind ≡ k → m.fault ≡ none → reset_mode m || eqb n s.e ≡ true → Says s m (effect s n m k)
  unfolding effect
  effect-says kind.Logon e f t = tt
  effect-says kind.Heartbeat e f t = tt
  effect-says kind.Test e f t = tt
  effect-says kind.Resend e f t = tt
  effect-says kind.Reset e f t = tt
  effect-says kind.Logout e f t = tt
  effect-says kind.Report e f t = record { seq = seq; ids = ids; phase = p; number = eqb-true n s.e (rw e at t); kind = e; fault = f }
  effect-says kind.Correction e f t = record { seq = seq; ids = ids; phase = p; number = eqb-true n s.e (rw e at t); kind = e; fault = f }
  effect-says kind.Other e f t = tt
  effect-says kind.Unlisted e f t = tt

  turn-says : (f : Option Fault) → m.fault ≡ f → reset_mode m || eqb n s.e ≡ true → Says s m (in_turn s n m f)
  unfolding in_turn
  turn-says (some f) e t = tt
  turn-says none e t = effect-says m.kind refl e t

  step4-says : Says s m (step4 s n m)
  unfolding step4
  step4-says = of-cond (Says s m) (reset_mode m || eqb n s.e) (λ t. turn-says m.fault refl t) (λ t. tt)

phase-says : (s : Session) (m : Facts) (n : ℕ) → m.seq ≡ some n → m.ids ≡ none → (p : Phase) → s.phase ≡ p → Says s m (by_phase p s n m)
unfolding by_phase
phase-says s m n seq ids phase.Out e = tt
phase-says s m n seq ids phase.Sent e = tt
phase-says s m n seq ids phase.In e = step4-says s m n seq ids (rw e)
phase-says s m n seq ids phase.Ended e = tt
phase-says s m n seq ids phase.Closing e = step4-says s m n seq ids (rw e)

ids-says : (s : Session) (m : Facts) (n : ℕ) → m.seq ≡ some n → (f : Option Fault) → m.ids ≡ f → Says s m (step2 s n m f)
ids-says s m n seq (some f) e = tt
ids-says s m n seq none e = phase-says s m n seq e s.phase refl

seq-says : (s : Session) (m : Facts) (o : Option ℕ) → m.seq ≡ o → Says s m (step1 s m o)
seq-says s m none e = tt
seq-says s m (some n) e = ids-says s m n e m.ids refl

judged-says : (s : Session) (m : Facts) → Says s m (judged_by s m)
unfolding judged_by
judged-says s m = seq-says s m m.seq refl

pub report-turn : (s : Session) (m : Facts) (n : ℕ) → judged_by s m ≡ Report n → Turn s m kind.Report n
report-turn s m n e = subst (Says s m) e (judged-says s m)

pub correction-turn : (s : Session) (m : Facts) (n : ℕ) → judged_by s m ≡ Correction n → Turn s m kind.Correction n
correction-turn s m n e = subst (Says s m) e (judged-says s m)

by-inside : (p : Phase) (s : Session) (n : ℕ) (m : Facts) → inside p ≡ true → by_phase p s n m ≡ step4 s n m
unfolding by_phase
by-inside phase.Out s n m e = true-not-false (sym e)
by-inside phase.Sent s n m e = true-not-false (sym e)
by-inside phase.In s n m e = refl
by-inside phase.Ended s n m e = true-not-false (sym e)
by-inside phase.Closing s n m e = refl

turn-step4 : (s : Session) (m : Facts) (k : Kind) (n : ℕ) → Turn s m k n → step4 s n m ≡ effect s n m k
unfolding step4 in_turn
turn-step4 s m k n t = rw (or_right (reset_mode m) (eqb n s.e) (eq-eqb n s.e t.number), t.fault, t.kind)

-- it has its type's effect
turn-asked : (s : Session) (m : Facts) (k : Kind) (n : ℕ) → Turn s m k n → judged_by s m ≡ effect s n m k
unfolding judged_by
turn-asked s m k n t = ap (step1 s m) t.seq ∙ ap (step2 s n m) t.ids ∙ by-inside s.phase s n m t.phase ∙ turn-step4 s m k n t

-- ---- E and O

-- neither is lowered, and both stay within nine digits
pub record Onward (s next : Session) : Type 0 where
  pub e_up : s.e ≤ next.e
  pub e-most : next.e ≤ 999999999
  pub o-up : s.o ≤ next.o
  pub o-most : next.o ≤ 999999999

-- "every other message we write uses one": O goes on by what is written
pub record Settles (s : Session) (j : Judged) : Type 0 where
  pub onward : Onward s j.next
  pub used : j.next.o ≡ s.o + used_by j.reply

uses-most : (a : Say) → uses a ≤ 1
uses-most a = of-cond (λ (n : ℕ). n ≤ 1) (is_gap_fill a) (λ e. omega arith) (λ e. omega arith)

pub used-most : (r : Reply) → used_by r ≤ 2
used-most Nothing = omega arith
used-most (One a) = omega (arith, uses-most a)
used-most (Two a b) = omega (arith, uses-most a, uses-most b)

module _ (s : Session) (o-small : s.o ≤ 999999997) where
  -- whatever is written, where E goes on so far
  pub settles : (o : Outcome) (reply : Reply) (next : Session) → next.o ≡ s.o → s.e ≤ next.e → next.e ≤ 999999999 → Settles s (judged o reply next)
  settles o reply next e f g = record {
    onward = record { e_up = f; e-most = g; o-up = omega (arith, used-most reply); o-most = omega (arith, used-most reply) };
    used = omega (arith, used-most reply);
  }

  -- our own calls
  pub own-numbers : (what : Own) → s.e ≤ 999999999 → Onward s (own_call what s)
  unfolding own_call
  own-numbers what g =
      let h = used-most (One (says what)) in
      record { e_up = omega arith; e-most = g; o-up = omega arith; o-most = omega arith }

  -- a report that is told to the session again, as rejected or as passed
  module _ (e-small : s.e ≤ 999999998) where
    pub rejected-numbers : (n : ℕ) (f : Fault) → Settles s (rejected s n f)
    rejected-numbers n f = settles (outcome.Rejected f) (One (say.Reject n f)) (raised s) refl (omega arith) (omega arith)

    pub passed-numbers : (o : Outcome) → Settles s (passed o s)
    passed-numbers o = settles o Nothing (raised s) refl (omega arith) (omega arith)

    -- "An in-order message raises E by 1"
    pub raised-one : (raised s).e ≡ s.e + 1
    raised-one = omega arith

abbrev Goes : Session → Verdict → Type 0
Goes s (Settled j) = Settles s j
Goes s (Report n) = Unit {0}
Goes s (Correction n) = Unit {0}

module _ (s : Session) (o-small : s.o ≤ 999999997) (e-small : s.e ≤ 999999999) where
  -- E stays
  stays : (o : Outcome) (reply : Reply) (next : Session) → next.o ≡ s.o → next.e ≡ s.e → Settles s (judged o reply next)
  stays o reply next e f = settles s o-small o reply next e (omega arith) (omega arith)

  ended-goes : Settles s (ended s)
  ended-goes = stays outcome.Ended (One say.Logout) (into phase.Ended s) refl refl

  rejected-ended-goes : (n : ℕ) (f : Fault) → Settles s (rejected_ended s n f)
  rejected-ended-goes n f = stays (outcome.RejectedEnded f) (Two (say.Reject n f) say.Logout) (into phase.Ended s) refl refl

  dropped-goes : Settles s (judged outcome.Dropped Nothing s)
  dropped-goes = stays outcome.Dropped Nothing s refl refl

  rejected-goes : (reset : Bool) (n : ℕ) (f : Fault) → (reset ≡ false → s.e ≤ 999999998) → Settles s (rejected_if reset s n f)
  unfolding rejected_if
  rejected-goes true n f h = stays (outcome.Rejected f) (One (say.Reject n f)) s refl refl
  rejected-goes false n f h = rejected-numbers s o-small (h refl) n f

  moved-goes : (to : ℕ) (reset : Bool) (n : ℕ) → to ≤ 999999999 → (reset ≡ false → s.e ≤ 999999998) → Settles s (moved to reset s n)
  unfolding moved
  moved-goes to reset n l h =
      of-cond (Settles s) (ltb s.e to)
      (λ t. (let g = ltb-true s.e to t in settles s o-small (outcome.Moved (to - s.e)) Nothing (expecting to s) refl (omega arith) l))
      (λ t. of-cond (Settles s) (eqb to s.e && reset) (λ u. stays outcome.Heard Nothing s refl refl) (λ u. rejected-goes reset n (fault 5 36) h))

  module _ (m : Facts) (read : Read m) (n : ℕ) (seq : m.seq ≡ some n) where
    low : n ≡ s.e → s.e ≤ 999999998
    low e = omega (arith, (read.seq n seq).1)

    effect-goes : (k : Kind) → m.kind ≡ k → (reset_mode m ≡ false → s.e ≤ 999999998) → Goes s (effect s n m k)
    unfolding effect logged_out
    effect-goes kind.Logon e h = passed-numbers s o-small (h (rw e)) outcome.Heard
    effect-goes kind.Heartbeat e h = passed-numbers s o-small (h (rw e)) outcome.Heard
    effect-goes kind.Test e h = let l = h (rw e) in settles s o-small outcome.Echoed (One say.Echo) (raised s) refl (omega arith) (omega arith)
    effect-goes kind.Resend e h = let l = h (rw e) in settles s o-small outcome.Filled (One (gap_fill s m)) (raised s) refl (omega arith) (omega arith)
    effect-goes kind.Reset e h = moved-goes m.to (reset_mode m) n read.to h
    effect-goes kind.Logout e h =
        let l = h (rw e) in
        settles s o-small outcome.Ended (cond (is_in s.phase) (One say.Logout) Nothing) (into phase.Ended (raised s)) refl (omega arith) (omega arith)
    effect-goes kind.Report e h = tt
    effect-goes kind.Correction e h = tt
    effect-goes kind.Other e h = passed-numbers s o-small (h (rw e)) outcome.Heard
    effect-goes kind.Unlisted e h = passed-numbers s o-small (h (rw e)) outcome.Heard

    turn-goes : (f : Option Fault) → (reset_mode m ≡ false → s.e ≤ 999999998) → Goes s (in_turn s n m f)
    unfolding in_turn
    turn-goes (some f) h = rejected-goes (reset_mode m) n f h
    turn-goes none h = effect-goes m.kind refl h

    by_number : (r : Bool) → r || eqb n s.e ≡ true → r ≡ false → s.e ≤ 999999998
    by_number r t e = low (eqb-true n s.e (rw e at t))

    gap-goes : Settles s (gap s m)
    unfolding gap
    gap-goes =
        stays outcome.Gap (gap_reply s (gap_fill s m) (answered m) (due s m)) (cond (due s m) (asking s) s) (of-cond (λ (x : Session). x.o ≡ s.o) (due s m) (λ t. refl) (λ t. refl))
        (of-cond (λ (x : Session). x.e ≡ s.e) (due s m) (λ t. refl) (λ t. refl))

    logon-goes : (f : Option Fault) → Settles s (logon s n f)
    logon-goes (some f) = rejected-ended-goes n f
    logon-goes none =
        of-cond (Settles s) (eqb n s.e)
        (λ t. (let l = low (eqb-true n s.e t) in settles s o-small outcome.In Nothing (into phase.In (raised s)) refl (omega arith) (omega arith)))
        (λ t. stays outcome.In (One (say.Resend s.e)) (into phase.In (asking s)) refl refl)

    step3-goes : Settles s (step3 s n m)
    unfolding step3
    step3-goes =
        of-cond (Settles s) (is_kind m.kind kind.Logon && leb s.e n) (λ t. logon-goes m.fault) (λ t. ended-goes)

    below-goes : Settles s (below s m)
    below-goes = of-cond (Settles s) m.again (λ t. dropped-goes) (λ t. ended-goes)

    step4-goes : Goes s (step4 s n m)
    unfolding step4
    step4-goes =
        of-cond (Goes s) (reset_mode m || eqb n s.e) (λ t. turn-goes m.fault (by_number (reset_mode m) t))
        (λ t. of-cond (Settles s) (ltb n s.e) (λ u. below-goes) (λ u. gap-goes))

    phase-goes : (p : Phase) → Goes s (by_phase p s n m)
    unfolding by_phase
    phase-goes phase.Out = dropped-goes
    phase-goes phase.Sent = step3-goes
    phase-goes phase.In = step4-goes
    phase-goes phase.Ended = dropped-goes
    phase-goes phase.Closing = step4-goes

    ids-goes : (f : Option Fault) → Goes s (step2 s n m f)
    ids-goes (some f) = rejected-ended-goes n f
    ids-goes none = phase-goes s.phase

  seq-goes : (m : Facts) → Read m → (o : Option ℕ) → m.seq ≡ o → Goes s (step1 s m o)
  seq-goes m read none e = ended-goes
  seq-goes m read (some n) e = ids-goes m read n e m.ids

  pub settled-numbers : (m : Facts) → Read m → (j : Judged) → judged_by s m ≡ Settled j → Settles s j
  unfolding judged_by
  settled-numbers m read j e = subst (Goes s) e (seq-goes m read m.seq refl)

-- ---- by the pieces of a message
module _ (setup : Setup) (s : Session) (ps : Pieces) where
  -- a faultless message of a type in its turn
  pub record TurnIn (k : Kind) (n : ℕ) : Type 0 where
    pub seq : seq_given (first_of 34 ps) ≡ some n
    pub ids : ids_given setup (first_of 49 ps) (first_of 56 ps) ≡ none
    pub phase : inside s.phase ≡ true
    pub number : n ≡ s.e
    pub kind : kind_in setup ps ≡ k
    pub fault : fault_in setup s.phase s.o ps ≡ none
    pub least : 1 ≤ n
    pub most : n ≤ 999999998

  seq-first : seq_given (first (look_of ps) 34) ≡ seq_given (first_of 34 ps)
  seq-first = ap seq_given (first-of ps 34)

  ids-first : ids_given setup (first (look_of ps) 49) (first (look_of ps) 56) ≡ ids_given setup (first_of 49 ps) (first_of 56 ps)
  ids-first =
      ap (λ (o : Option (List ℕ)). ids_given setup o (first (look_of ps) 56)) (first-of ps 49) ∙ ap (ids_given setup (first_of 49 ps)) (first-of ps 56)

  turn_in : (k : Kind) (n : ℕ) → Turn s (facts_in setup s ps) k n → TurnIn k n
  unfolding facts_in facts_of fault_in
  turn_in k n t =
      let q = sym seq-first ∙ t.seq in
      let l = seq-read (first_of 34 ps) n q in
      record { seq = q; ids = sym ids-first ∙ t.ids; phase = t.phase; number = t.number; kind = t.kind; fault = t.fault; least = l.0; most = l.1 }

  pub judge-report : (n : ℕ) → judge setup s ps ≡ Report n → TurnIn kind.Report n
  unfolding judge
  judge-report n e = turn_in kind.Report n (report-turn s (facts_in setup s ps) n e)

  pub judge-correction : (n : ℕ) → judge setup s ps ≡ Correction n → TurnIn kind.Correction n
  unfolding judge
  judge-correction n e = turn_in kind.Correction n (correction-turn s (facts_in setup s ps) n e)

  -- and such a message has its type's effect
  turn-judged : (k : Kind) (n : ℕ) → seq_given (first_of 34 ps) ≡ some n → ids_given setup (first_of 49 ps) (first_of 56 ps) ≡ none → inside s.phase ≡ true → n ≡ s.e
      → kind_in setup ps ≡ k → fault_in setup s.phase s.o ps ≡ none → judge setup s ps ≡ effect s n (facts_in setup s ps) k
  unfolding judge facts_in facts_of fault_in
  turn-judged k n seq ids p e l f =
      turn-asked s (facts_in setup s ps) k n (record { seq = seq-first ∙ seq; ids = ids-first ∙ ids; phase = p; number = e; kind = l; fault = f })

  pub judge-asks : (n : ℕ) → seq_given (first_of 34 ps) ≡ some n → ids_given setup (first_of 49 ps) (first_of 56 ps) ≡ none → inside s.phase ≡ true → n ≡ s.e
      → kind_in setup ps ≡ kind.Report → fault_in setup s.phase s.o ps ≡ none → judge setup s ps ≡ Report n
  unfolding effect
  judge-asks = turn-judged kind.Report

  pub judge-asks-correction : (n : ℕ) → seq_given (first_of 34 ps) ≡ some n → ids_given setup (first_of 49 ps) (first_of 56 ps) ≡ none → inside s.phase ≡ true → n ≡ s.e
      → kind_in setup ps ≡ kind.Correction → fault_in setup s.phase s.o ps ≡ none → judge setup s ps ≡ Correction n
  unfolding effect
  judge-asks-correction = turn-judged kind.Correction

  -- what is settled, in a call that refusal 4 does not refuse
  pub judge-settles : s.o ≤ 999999997 → s.e ≤ 999999999 → (j : Judged) → judge setup s ps ≡ Settled j → Settles s j
  unfolding judge
  judge-settles o-small e-small j e = settled-numbers s o-small e-small (facts_in setup s ps) (facts-read-in setup s ps) j e
