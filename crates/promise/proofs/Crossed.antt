-- Request C-12: the report of a fill that crossed a cancel is booked; what the request moved; 39=8 stays refused; and
-- the restart is the function that it was.
use Prim.Native.Nat.{ℕ, ◌+◌}
use mathlib.Core.Path.{◌≡◌, refl, sym, ap, ◌∙◌}
use mathlib.Core.Logic.{◌↔◌, inr, ⊎_elim}
use mathlib.Core.List.{List}
use mathlib.Core.Option.{Option, none, some}
use mathlib.Core.Bool.{Bool, true, false, cond, not}
use native.Mathlib.Omega.{arith}
use lib.Dec.{eqb}
use borrow.Author.Tests.{eq-eqb, le-leb}
use Rattle.std.specs.Prelude.{Ok, Err}
use Rattle.octet.specs.Bytes.{between, is}
use Rattle.octet.specs.Maybe.{is_none, or_else}
use Rattle.octet.proofs.Cases.{contrary}
use Rattle.frame.specs.Finding.{found_in, body_in}
use Rattle.frame.specs.declared.Found.{Found}
use Rattle.frame.specs.declared.Found.TheVariants as found
use Rattle.field.specs.Pieces.{Pieces, pieces_of, first_of, text_at}
use Rattle.field.specs.Look.{look_of}
use Rattle.table.specs.Rows.{kind_in}
use Rattle.table.specs.Steps.{number_at}
use Rattle.table.proofs.Messages.{report-values}
use Rattle.answer.specs.Numbers.{nine_digits}
use Rattle.answer.specs.declared.Setup.{Setup}
use Rattle.answer.specs.declared.Phase.{Phase}
use Rattle.answer.specs.declared.Fault.{Fault}
use Rattle.answer.specs.declared.Kind.TheVariants as kind
use Rattle.answer.specs.declared.Outcome.TheVariants as outcome
use Rattle.answer.specs.declared.Refusal.{Refusal}
use Rattle.fill.specs.Slot.{Slot, fill_lawful}
use Rattle.fill.specs.Booked.{slot_lawful}
use Rattle.fill.proofs.Lawful.{lawful-fill}
use Rattle.book.specs.Place.{is_new}
use Rattle.book.specs.Admitting.{place}
use Rattle.book.specs.declared.Placed.{Placed}
use Rattle.book.specs.declared.Placed.TheVariants as placed
use Rattle.book.proofs.ByKind.{fill-no-entry}
use Rattle.note.specs.Notes.{Books}
use Rattle.note.specs.Kept.{Kept, bookable, lawful}
use Rattle.note.proofs.Keeping.{lawful-books, bookable-facts}
use Rattle.report.specs.Report.{Report as Values, is_crossed, unless_kept, rule_fault, is_aside, after_rules, reported_of, report_of, report_in, reported_in, slot_in}
use Rattle.report.specs.Crossed.{former_fault}
use Rattle.report.specs.Noted.{Tells, IsFill}
use Rattle.report.specs.Report.{Said}
use Rattle.report.specs.declared.Reported.TheVariants as reported
use Rattle.report.proofs.Kept.{rules-kept, fill-keeps, aside-is}
use Rattle.report.proofs.Crossed.{difference}
use Rattle.report.proofs.Noted.{noted}
use Rattle.session.specs.Judging.{judge, rejected, passed}
use Rattle.session.specs.declared.Judged.{Judged}
use Rattle.session.specs.declared.Verdict.{Verdict}
use Rattle.session.specs.declared.Verdict.TheVariants.{Settled, Report, Correction}
use Rattle.session.proofs.Turns.{judge-asks}
use Rattle.tally.specs.declared.Tally.{Tally}
use Rattle.receiver.specs.State.{State, Did, session_of}
use Rattle.receiver.specs.Calls.{Brings, Nothing, This, of_report, brought_by, brings_of, becomes, deed_of, spoken, settled, carried_out, framed, found_to, message}
use Rattle.receiver.specs.Receiver.{Message, Lent, refusal_of, unrefused, unless-refused, does, call}
use Rattle.promise.specs.Demand2.{InTurn, Fresh}
use Rattle.promise.specs.Crossed.{CrossedWell, CrossedBooked, found_by, CalledBy, former_by, former_brings, rejects, crossed_brings, Moved, StaysRefused, WouldBook, SameRestart}
use Rattle.promise.proofs.Booking.{turned, turned-correction, demand2}

-- ---- the second demand

well-kept : (ps : Pieces) → CrossedWell ps → rule_fault (report_in ps) ≡ none
unfolding report_of
well-kept ps x =
    rules-kept (report_in ps)
    (record {
      shares-cum = x.shares-cum;
      cum-quantity = x.cum-quantity;
      rest = inr (record { status = x.status; exec_type = x.exec_type; leaves = x.leaves });
    })

pub crossed-booked : (setup : Setup) (st : State) (b : Lent) (t : Tally) (time s : List ℕ) (len : ℕ) → CrossedBooked setup st b t time s len
crossed-booked setup st b t time s len h room u =
    let fresh : Fresh st (pieces_of (body_in len s)) = record { rules = well-kept (pieces_of (body_in len s)) h.crossed; aside = h.alone; new = h.new } in
    (demand2 setup st b t time s len).booked (record { framed = h.framed; turn = h.turn; fresh = fresh }) room u

-- ---- all that it moved

found-by : (setup : Setup) (st : State) (time s : List ℕ) (f : Found) → found_to setup st time s f ≡ found_by (brings_of setup st) setup st time s f
unfolding found_to framed deed_of
found-by setup st time s found.More = refl
found-by setup st time s (found.Garbled skip) = refl
found-by setup st time s (found.Framed len) = refl

pub called-by : (setup : Setup) (st : State) (b : Lent) (time s : List ℕ) → CalledBy setup st b time s
unfolding does unrefused message
called-by setup st b time s = ap (unless-refused st (refusal_of setup st b (Message time s))) (found-by setup st time s (found_in s))

module _ (setup : Setup) (st : State) (ps : Pieces) where
  abbrev crossed : Bool
  crossed = is_crossed (text_at 150 ps) (text_at 39 ps)

  judged : InTurn setup st ps kind.Report → judge setup (session_of st) ps ≡ Report st.kept.e
  judged t = judge-asks setup (session_of st) ps st.kept.e t.number t.parties t.phase refl t.type t.faultless

  by-verdict : (v : Verdict) → judge setup (session_of st) ps ≡ v → ¬ InTurn setup st ps kind.Report
      → brought_by (session_of st) (look_of ps) v ≡ former_by (session_of st) (look_of ps) v
  unfolding brought_by
  by-verdict (Settled j) e h = refl
  by-verdict (Report n) e h = absurd (h (turned setup st ps n e))
  by-verdict (Correction n) e h = refl

  elsewhere : ¬ InTurn setup st ps kind.Report → brings_of setup st ps ≡ former_brings setup st ps
  unfolding brings_of
  elsewhere h = by-verdict (judge setup (session_of st) ps) refl h

  uncrossed-by : (v : Verdict) → crossed ≡ false → brought_by (session_of st) (look_of ps) v ≡ former_by (session_of st) (look_of ps) v
  unfolding brought_by reported_of report_of
  uncrossed-by (Settled j) h = refl
  uncrossed-by (Report n) h = ap (λ (o : Option Fault). of_report (session_of st) (look_of ps) n (after_rules (is_aside (look_of ps)) o)) ((difference (report_in ps)).same' h)
  uncrossed-by (Correction n) h = refl

  uncrossed : crossed ≡ false → brings_of setup st ps ≡ former_brings setup st ps
  unfolding brings_of
  uncrossed h = uncrossed-by (judge setup (session_of st) ps) h

  some-fault : (o : Option Fault) → ¬ (o ≡ none) → (f : Fault) × (o ≡ some f)
  some-fault none h = absurd (h refl)
  some-fault (some f) h = (f, refl)

  before : InTurn setup st ps kind.Report → crossed ≡ true → (f : Fault) × (former_brings setup st ps ≡ Nothing (rejected (session_of st) st.kept.e f))
  unfolding of_report report_of
  before t h =
      let x = some-fault (former_fault (report_in ps)) ((difference (report_in ps)).before h) in (
        x.0,
        ap (former_by (session_of st) (look_of ps)) (judged t)
            ∙ ap (λ (o : Option Fault). of_report (session_of st) (look_of ps) st.kept.e (after_rules (is_aside (look_of ps)) o)) x.1,
      )

  -- the two rules that are left, and 442
  by-rules : (cum leaves alone : Bool)
      → of_report (session_of st) (look_of ps) st.kept.e (after_rules (not alone) (or_else (unless_kept 14 cum) (unless_kept 151 leaves)))
      ≡ cond cum (cond leaves (cond alone (This st.kept.e (slot_in ps)) (Nothing (passed outcome.Aside (session_of st)))) (rejects st 151)) (rejects st 14)
  unfolding of_report
  by-rules true true true = refl
  by-rules true true false = refl
  by-rules true false alone = refl
  by-rules false leaves alone = refl

  now : InTurn setup st ps kind.Report → crossed ≡ true → brings_of setup st ps ≡ crossed_brings st ps
  unfolding brings_of brought_by reported_of report_of
  now t h =
      let look = look_of ps in
      let fits = between (number_at 32 ps) (number_at 38 ps) (number_at 14 ps) in
      let closed = eqb (number_at 151 ps) 0 in
      ap (brought_by (session_of st) look) (judged t)
      ∙ ap (λ (o : Option Fault). of_report (session_of st) look st.kept.e (after_rules (is_aside look) o)) ((difference (report_in ps)).now h)
      ∙ ap (λ (a : Bool). of_report (session_of st) look st.kept.e (after_rules a (or_else (unless_kept 14 fits) (unless_kept 151 closed)))) (aside-is ps)
      ∙ by-rules fits closed (is_none (first_of 442 ps))

  pub moved : Moved setup st ps
  moved = record { elsewhere = elsewhere; uncrossed = uncrossed; before = before; now = now }

-- ---- "39=8 stays refused"

module _ (setup : Setup) (st : State) (ps : Pieces) (type : kind_in setup ps ≡ kind.Report)
    (one : is "1" (text_at 39 ps) ≡ false) (two : is "2" (text_at 39 ps) ≡ false) (four : is "4" (text_at 39 ps) ≡ false) where
  -- a fill has 39 equal to 150, which is 1 or 2, or 4
  no-fill : (n : ℕ) → judge setup (session_of st) ps ≡ Report n → reported_in ps ≡ Ok reported.Fill → ⊥
  unfolding report_of
  no-fill n e f =
      let kept = fill-keeps ps f in
      let t = turned setup st ps n e in
      let values = report-values setup st.phase st.kept.o ps t.faultless type in
      ⊎_elim
      (λ p. ⊎_elim
      (λ q. contrary (ap (is "1") (p.status ∙ q)) one)
      (λ q. contrary (ap (is "2") (p.status ∙ q)) two)
      values.exec_type)
      (λ x. contrary (ap (is "4") x.status) four)
      kept.rest

  by-reported : (n : ℕ) → judge setup (session_of st) ps ≡ Report n → (r : Said) → reported_in ps ≡ r
      → (j : Judged) × (of_report (session_of st) (look_of ps) n r ≡ Nothing j)
  unfolding of_report
  by-reported n e (Err f) k = (_, refl)
  by-reported n e (Ok reported.Aside) k = (_, refl)
  by-reported n e (Ok reported.Fill) k = absurd (no-fill n e k)

  brought : (v : Verdict) → judge setup (session_of st) ps ≡ v → (j : Judged) × (brought_by (session_of st) (look_of ps) v ≡ Nothing j)
  unfolding brought_by
  brought (Settled j) e = (j, refl)
  brought (Report n) e = by-reported n e (reported_in ps) refl
  brought (Correction n) e = absurd (let z : kind.Report ≡ kind.Correction = sym type ∙ (turned-correction setup st ps n e).type in let y : ◌≡◌ {A = ℕ} 0 1 = cc in omega arith)

  brings-nothing : (j : Judged) × (brings_of setup st ps ≡ Nothing j)
  unfolding brings_of
  brings-nothing = brought (judge setup (session_of st) ps) refl

module _ (setup : Setup) (st : State) (b : Lent) (t : Tally) (time s : List ℕ) (len : ℕ) where
  abbrev ps : Pieces
  ps = pieces_of (body_in len s)

  -- a message that brings nothing adds nothing
  said-still : (j : Judged) → (carried_out setup st time len ps (becomes st (Nothing j))).next.kept.slots ≡ st.kept.slots
  unfolding becomes carried_out settled spoken
  said-still j = refl

  still : found_in s ≡ found.Framed len → (j : Judged) → brings_of setup st ps ≡ Nothing j → (o : Option Refusal)
      → (unless-refused st o (found_by (brings_of setup st) setup st time s (found_in s))).next.kept.slots ≡ st.kept.slots
  still h j e (some why) = refl
  still h j e none =
      ap (λ (f : Found). (found_by (brings_of setup st) setup st time s f).next.kept.slots) h
      ∙ ap (λ (x : Brings). (carried_out setup st time len ps (becomes st x)).next.kept.slots) e
      ∙ said-still j

  only : found_in s ≡ found.Framed len → kind_in setup ps ≡ kind.Report → is "1" (text_at 39 ps) ≡ false → is "2" (text_at 39 ps) ≡ false → is "4" (text_at 39 ps) ≡ false
      → (call setup st b t (Message time s)).did.next.kept.slots ≡ st.kept.slots
  unfolding call
  only h type one two four =
      let x = brings-nothing setup st ps type one two four in
      ap (λ (d : Did). d.next.kept.slots) (called-by setup st b time s) ∙ still h x.0 x.1 (refusal_of setup st b (Message time s))

  pub stays-refused : StaysRefused setup st b t time s len
  stays-refused = record { only = only; eight = λ h type e. only h type (ap (is "1") e) (ap (is "2") e) (ap (is "4") e) }

-- ---- the restart

only-new : (p : Placed) → is_new p ≡ true → p ≡ placed.New
only-new (placed.Clash f) e = contrary e refl
only-new placed.Already e = contrary e refl
only-new placed.New e = refl

module _ (rules : Values → Option Fault) (setup : Setup) (phase : Phase) (q : Kept) (e o : ℕ) (s : Slot) (is : IsFill s)
    (same : (fill_lawful s ≡ true) ↔ Tells rules setup phase o s) where
  as-fill : slot_lawful s ≡ fill_lawful s
  as-fill = lawful-fill s (fill-no-entry s is.marked)

  would-book : lawful q (Books e o s) ≡ true → WouldBook rules setup phase q e o s
  would-book law =
      let l = lawful-books q e o s law in
      let b = bookable-facts q.slots q.rows q.load s l.3 in
      record { one_up = l.0; within = l.1; sent = l.2; told = same.0 (sym as-fill ∙ b.0); new = only-new (place q.slots q.rows s) b.1; room = b.2 }

  is_lawful : WouldBook rules setup phase q e o s → lawful q (Books e o s) ≡ true
  unfolding lawful bookable
  is_lawful w =
      rw (
        eq-eqb e (q.e + 1) w.one_up,
        le-leb e nine_digits w.within,
        eq-eqb o q.o w.sent,
        as-fill ∙ same.1 w.told,
        w.new,
        w.room,
      )

pub same-restart : (setup : Setup) (phase : Phase) (q : Kept) (e o : ℕ) (s : Slot) → IsFill s → SameRestart setup phase q e o s
same-restart setup phase q e o s is =
    let n = noted setup phase o s is in
    record {
      now = (would-book rule_fault setup phase q e o s is n.now, is_lawful rule_fault setup phase q e o s is n.now);
      before = (would-book former_fault setup phase q e o s is n.before, is_lawful former_fault setup phase q e o s is n.before);
    }
