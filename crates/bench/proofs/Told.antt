-- From the promises of the calls to what is told in numbers.
use Prim.Native.Nat.{ℕ}
use mathlib.Core.Path.{◌≡◌, refl, sym, ap, ◌∙◌}
use mathlib.Core.List.{List}
use Rattle.answer.specs.declared.Setup.{Setup}
use Rattle.field.specs.Pieces.{Scan, pieces_of, scan_of}
use Rattle.field.specs.Index.{index_of}
use Rattle.field.specs.Look.{look_of, look_in}
use Rattle.field.proofs.Looks.{look-by}
use Rattle.session.proofs.Listed.{facts-listed}
use Rattle.field.specs.declared.Column.{Column}
use Rattle.session.specs.Reading.{Facts, facts_of, facts_in}
use Rattle.session.specs.Judging.{judged_by, judge}
use Rattle.session.specs.declared.Session.{Session}
use Rattle.session.specs.declared.Verdict.{Verdict}
use Rattle.tally.specs.declared.Tally.{Tally}
use Rattle.receiver.specs.State.{State, Did}
use Rattle.receiver.specs.Receiver.{What, Lent, does, call}
use Rattle.receiver.specs.Steps.{Entered, Filed, Taken}
use Rattle.receiver.specs.declared.Told.{Told}
use Rattle.answer.specs.declared.Outcome.{Outcome}
use Rattle.receiver.specs.declared.Answer.{Answer}
use Rattle.receiver.specs.declared.Answer.TheVariants.{Done, Refused, More, Garbled, Framed, Offered, None, Acked, Already, Restarted}
use Rattle.bench.specs.Timed.{became_number, word_of, Timed, TimedFiled, scan_number, cells_of, Indexed}

-- what a call does is the same whatever the tally was
pub heard-of : (setup : Setup) (st : State) (b : Lent) (t : Tally) (w : What) {x : Told} {t' : Tally} {book book' reply reply' note note' : List ℕ}
    → Taken (call setup st b t w) x t' book book' reply reply' note note' → Entered (does setup st b w) x book book' reply reply' note note'
unfolding call
heard-of setup st b t w k = k.entered

pub timed-call : {d : Did} {t : Told} {r : ℕ} {book book' reply reply' note note' : List ℕ} → Entered d t book book' reply reply' note note' → r ≡ word_of t
    → Timed d r book book' reply reply' note note'
timed-call k e = record { told = e ∙ ap word_of k.written.told; booked = k.booked; replied = k.written.replied; noted = k.written.noted }

pub timed-filed : {d : Did} {t : Told} {r : ℕ} {book book' note note' : List ℕ} → Filed d t book book' note note' → r ≡ word_of t → TimedFiled d r book book' note note'
timed-filed k e = record { told = e ∙ ap word_of k.told; booked = k.booked; noted = k.noted }

-- a session judges a body by its index as it judges the pieces
pub judged-body : {setup setup' : Setup} {s s' : Session} (body : List ℕ) {scan : Scan} {index : List Column} {fs : Facts} {v : Verdict} → setup ≡ setup' → s ≡ s'
    → (scan ≡ scan_of (pieces_of body)) × (index ≡ index_of body) → fs ≡ facts_of setup s scan (look_in body index) → v ≡ judged_by s fs → v ≡ judge setup' s' (pieces_of body)
unfolding judge facts_in
judged-body {setup} {setup'} {s} {s'} body {index = index} p q own read e =
    e
    ∙ ap (judged_by s)
    (read ∙ ap (λ (x : Scan). facts_of setup s x (look_in body index)) own.0 ∙ ap (facts_of setup s (scan_of (pieces_of body))) (look-by body own.1)
    ∙ facts-listed (look_of (pieces_of body)) setup s (scan_of (pieces_of body)))
    ∙ ap (λ (x : Setup). judge x s (pieces_of body)) p
    ∙ ap (λ (x : Session). judge setup' x (pieces_of body)) q

-- what was indexed, by its fault, and laid out
pub indexed-body : (body : List ℕ) (scan : Scan) {q : Scan} {index : List Column} {cells : List ℕ} → q ≡ scan → (q ≡ scan_of (pieces_of body)) × (index ≡ index_of body)
    → cells ≡ cells_of index → Indexed body (scan_number scan) cells
indexed-body body scan e f laid = record { fault = ap scan_number (sym e ∙ f.0); listed = laid ∙ ap cells_of f.1 }

-- what is no framed message has no number
pub unframed : (a : Answer) → ((len : ℕ) (o : Outcome) → a ≡ Framed len o → ⊥) → 0 ≡ became_number a
unframed Done h = refl
unframed (Refused why) h = refl
unframed More h = refl
unframed (Garbled skip) h = refl
unframed (Framed len o) h = absurd (h len o refl)
unframed Offered h = refl
unframed None h = refl
unframed Acked h = refl
unframed Already h = refl
unframed (Restarted whole) h = refl
