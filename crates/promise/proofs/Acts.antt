-- What one call does to what is kept, by its note; to the marks, and to what was shown; and that it says that it booked a fill or an entry exactly where it did.
use Prim.Native.Nat.{ℕ, suc, ◌+◌, ◌-◌, ◌≤◌, ◌<◌}
use mathlib.Core.Path.{◌≡◌, refl, sym, ap, ap₂, ◌∙◌, subst}
use mathlib.Core.Logic.{inl, inr, ⊎_elim}
use mathlib.Core.List.{List, [], ◌∷◌, ◌++◌, append-nil}
use mathlib.Core.Option.{Option, none, some}
use mathlib.Core.Bool.{Bool, true, false, ◌&&◌, ◌||◌, not}
use native.Mathlib.Nat.{suc-ne-zero, le_refl}
use native.Mathlib.Omega.{arith}
use lib.ListN.{length, take, drop, get_or, length-append, length-drop, length-take}
use lib.Seq.{take-append-le, drop-append-le, take-suc, get_or-drop}
use lib.Dec.{leb, ltb, eqb}
use borrow.Author.Tests.{ltb-false, leb-false, eqb-true, eqb-false, eq-eqb, lt-ltb, le-leb}
use Rattle.std.specs.Prelude.{Ok, Err}
use Rattle.octet.specs.Maybe.{or_else, first, is_none}
use Rattle.octet.proofs.Cases.{of-cond, contrary, and_both, and-fails, or_left, or_right, bool_case}
use Rattle.answer.specs.Numbers.{nine_digits, last_to_send}
use Rattle.answer.specs.declared.Setup.{Setup}
use Rattle.answer.specs.declared.Fault.{Fault}
use Rattle.answer.specs.declared.Outcome.{Outcome}
use Rattle.answer.specs.declared.Outcome.TheVariants as outcome
use Rattle.answer.specs.declared.Refusal.{Refusal}
use Rattle.answer.specs.declared.Refusal.TheVariants as refusal
use Rattle.frame.specs.Finding.{found_in, body_in}
use Rattle.frame.specs.declared.Found.{Found}
use Rattle.frame.specs.declared.Found.TheVariants as found
use Rattle.field.specs.Pieces.{Pieces, pieces_of}
use Rattle.field.specs.Look.{look_of}
use Rattle.fill.specs.Slot.{Slot, is_entry}
use Rattle.fill.specs.Booked.{IsSlot, line_of, slot_lawful}
use Rattle.book.specs.Place.{is_new}
use Rattle.book.specs.Admitting.{place, has_room, no_load}
use Rattle.book.specs.Orders.{orders_after, count_where, load_of, rows_of, day_of}
use Rattle.book.proofs.Stored.{rows_empty, day-empty}
use Rattle.book.proofs.ByKind.{fill-no-entry}
use Rattle.book.specs.declared.Placed.{Placed}
use Rattle.book.specs.declared.Placed.TheVariants as placed
use Rattle.note.specs.Notes.{Raises, Acks, Clears}
use Rattle.note.specs.Kept.{Kept, empty, bookable, lawful, after}
use Rattle.report.specs.Report.{report_in, reported_in, slot_in, rule_fault}
use Rattle.report.specs.Report.{Said}
use Rattle.report.specs.declared.Reported.TheVariants as reported
use Rattle.report.proofs.Kept.{fill-told}
use Rattle.report.proofs.Lawful as fills
use Rattle.report.proofs.Correction.{entry-long, entry-marked, entry-ends, correction-booked}
use Rattle.report.specs.Correction.{entry_in}
use Rattle.queue.specs.Queue.{short_note}
use Rattle.session.specs.Session.{says, is_on, may_call, own_call, line_lost}
use Rattle.session.specs.Judging.{judge, rejected, passed}
use Rattle.session.proofs.Turns.{Onward, own-numbers, rejected-numbers, passed-numbers, judge-report, judge-correction, judge-settles}
use Rattle.session.specs.declared.Own.{Own}
use Rattle.session.specs.declared.Session.{Session}
use Rattle.session.specs.declared.Judged.{Judged}
use Rattle.session.specs.declared.Verdict.{Verdict}
use Rattle.session.specs.declared.Verdict.TheVariants.{Settled, Report, Correction}
use Rattle.restart.specs.Restart.{Outcome as Restarting, Again, Unlawful, restart}
use Rattle.receiver.specs.State.{State, woken, Did, quiet, noting, session_of, with_session, keeping, offering, note_of_change}
use Rattle.receiver.specs.Calls.{spoken, owned, lost, settled, booking_note, booked_as, booked, Deed, of_report, brought_by, brings_of, with_room, placed_as, becomes, deed_of, carried_out, framed, found_to, message, offer_of, offer, begin_again, acknowledge, is_empty, new_day, restarted}
use Rattle.receiver.specs.Receiver.{What, Own-call, Line-lost, Message, Offer, Begin-again, Acknowledge, New-day, Restart, Lent, refuse, short_reply, bad_given, writing, refusal_of, unrefused, unless-refused, does}
use Rattle.receiver.specs.declared.Answer.{Answer}
use Rattle.receiver.specs.declared.Answer.TheVariants.{Done, Refused, More, Garbled, Framed, None, Acked, Already}
use Rattle.promise.specs.Sort.{Became, became_of, is_acked}
use Rattle.promise.specs.World.{is_again, starts_again, is_refused, gave, Shown, showing, anew, lines_of}
use Rattle.promise.specs.Demand3.{number_told}
use Rattle.promise.proofs.Executions.{none-some, no-snoc, no-empty, lines-append}
use Rattle.promise.proofs.Chain.{Says, NoteSays, Tells, Safe}
use Rattle.promise.proofs.Speaking.{settled-speaks}

-- the marks in order, and what was shown: the lines of the fills from the base to the offered mark
pub record Stands (st : State) (h : Shown) : Type 0 where
  pub low : st.kept.acked ≤ st.offered
  pub high : st.offered ≤ length st.kept.slots
  pub base : h.base ≤ st.kept.acked
  pub given : h.given ≡ lines_of (h.base + 1) (take (st.offered - h.base) (drop h.base st.kept.slots))

-- nothing was shown since the marks were set equal
pub stands-anew : (st : State) → st.offered ≡ st.kept.acked → st.kept.acked ≤ length st.kept.slots → Stands st (record { base = st.kept.acked; given = [] })
stands-anew st e h =
    let n : ℕ = st.kept.acked in
    let z : st.offered - n ≡ 0 = omega arith in
    record {
      low = omega arith;
      high = omega arith;
      base = omega arith;
      given = sym (ap (λ (i : ℕ). lines_of (n + 1) (take i (drop n st.kept.slots))) z);
    }

pub record Acts (st : State) (w : What) (d : Did) : Type 0 where
  pub notes : NoteSays st.kept w d.next.kept d.note
  pub tells : Tells st d
  pub acks : is_acked d.answer ≡ true → is_none d.note ≡ false
  pub marks : (h : Shown) → Stands st h → Stands d.next (showing h w d (anew w d.answer))

-- ---- no slot is added

tells_none : (st : State) (d : Did) → number_told d.answer ≡ none → d.next.kept.slots ≡ st.kept.slots → Tells st d
tells_none st d u e n = ((λ h. none-some n (sym u ∙ h)), λ x. no-snoc st.kept.slots x.0 (sym e ∙ x.1.slots))

-- ---- the marks stay, and the slots are the same or more

stands-more : (st : State) (w : What) (d : Did) (h : Shown) (gs : List Slot) → d.next.offered ≡ st.offered → d.next.kept.acked ≡ st.kept.acked
    → d.next.kept.slots ≡ st.kept.slots ++ gs → anew w d.answer ≡ false → gave d.answer d.line ≡ [] → Stands st h
    → Stands d.next (showing h w d (anew w d.answer))
stands-more st w d h gs o a f anew-not gave-none m =
    let l : List Slot = st.kept.slots in
    let b : ℕ = h.base in
    let n : ℕ = st.offered in
    let lf : length d.next.kept.slots ≡ length l + length gs = ap length f ∙ length-append l gs in
    let hb : b ≤ length l = omega (arith, m.base, m.low, m.high) in
    let ht : n - b ≤ length (drop b l) = omega (arith, length-drop b l, m.high) in
    let same : take (d.next.offered - b) (drop b d.next.kept.slots) ≡ take (n - b) (drop b l) =
    ap₂ (λ (i : ℕ) (x : List Slot). take (i - b) (drop b x)) o f ∙ ap (take (n - b)) (drop-append-le b l gs hb) ∙ take-append-le (n - b) (drop b l) gs ht in
    subst (λ (x : Bool). Stands d.next (showing h w d x)) (sym anew-not) (record {
      low = omega (arith, m.low);
      high = omega (arith, m.high);
      base = omega (arith, m.base);
      given = ap (λ (x : List (List ℕ)). h.given ++ x) gave-none ∙ append-nil h.given ∙ m.given
          ∙ ap (lines_of (b + 1)) (sym same);
    })

stands_same : (st : State) (w : What) (d : Did) (h : Shown) → d.next.offered ≡ st.offered → d.next.kept.acked ≡ st.kept.acked
    → d.next.kept.slots ≡ st.kept.slots → anew w d.answer ≡ false → gave d.answer d.line ≡ [] → Stands st h
    → Stands d.next (showing h w d (anew w d.answer))
stands_same st w d h o a f = stands-more st w d h [] o a (f ∙ sym (append-nil st.kept.slots))

-- a call that changes nothing
acts-quiet : (st : State) (w : What) (a : Answer) → anew w a ≡ false → gave a [] ≡ [] → number_told a ≡ none → is_acked a ≡ false → Acts st w (quiet a st)
acts-quiet st w a e g u k = record {
  notes = refl;
  tells = tells_none st (quiet a st) u refl;
  acks = λ h. contrary h k;
  marks = λ h m. stands_same st w (quiet a st) h refl refl refl e g m;
}

-- ---- the session's calls

kept-path : (q : Kept) (e o : ℕ) → e ≡ q.e → o ≡ q.o → record { e = e; o = o; slots = q.slots; rows = q.rows; load = q.load; acked = q.acked; day = q.day } ≡ q
kept-path q e o a b = λ i. record { e = a i; o = b i; slots = q.slots; rows = q.rows; load = q.load; acked = q.acked; day = q.day }

raises-law : (q : Kept) (e o : ℕ) → q.e ≤ e → e ≤ nine_digits → q.o ≤ o → o ≤ nine_digits → eqb q.e e && eqb q.o o ≡ false → lawful q (Raises e o) ≡ true
unfolding lawful
raises-law q e o a b c d h =
    let up : ltb q.e e || ltb q.o o ≡ true =
    ⊎_elim
    (λ x. or_left (ltb q.e e) (ltb q.o o) (lt-ltb q.e e (let z = eqb-false q.e e x in omega arith)))
    (λ x. or_right (ltb q.e e) (ltb q.o o) (lt-ltb q.o o (let z = eqb-false q.o o x in omega arith)))
    (and-fails (eqb q.e e) (eqb q.o o) h) in
    rw (up, le-leb q.e e a, le-leb q.o o c, le-leb e nine_digits b, le-leb o nine_digits d)

change-says : (st : State) (w : What) (t : Session) → ((e o : ℕ) → Says w (Raises e o)) → Onward (session_of st) t
    → NoteSays st.kept w (with_session st t).kept (note_of_change (session_of st) t)
unfolding note_of_change after
change-says st w t says f =
    of-cond (NoteSays st.kept w (with_session st t).kept) (eqb st.kept.e t.e && eqb st.kept.o t.o)
    (λ h. let p = and_both (eqb st.kept.e t.e) (eqb st.kept.o t.o) h in
    kept-path st.kept t.e t.o (sym (eqb-true st.kept.e t.e p.0)) (sym (eqb-true st.kept.o t.o p.1)))
    (λ h. record {
      law = raises-law st.kept t.e t.o f.e_up f.e-most f.o-up f.o-most h;
      slotted = tt;
      to = refl;
      says = says t.e t.o;
    })

acts-session : (st : State) (w : What) (a : Answer) (t : Session) (reply : List ℕ) → ((e o : ℕ) → Says w (Raises e o)) → Onward (session_of st) t
    → anew w a ≡ false → gave a [] ≡ [] → number_told a ≡ none → is_acked a ≡ false
    → Acts st w (record { answer = a; next = with_session st t; reply = reply; note = note_of_change (session_of st) t; line = [] })
acts-session st w a t reply says f e g u k =
    let d : Did = record { answer = a; next = with_session st t; reply = reply; note = note_of_change (session_of st) t; line = [] } in
    record {
      notes = change-says st w t says f;
      tells = tells_none st d u refl;
      acks = λ h. contrary h k;
      marks = λ h m. stands_same st w d h refl refl refl e g m;
    }

acts-owned : (setup : Setup) (st : State) (time : List ℕ) (own : Own) → st.kept.e ≤ nine_digits → st.kept.o ≤ last_to_send → Acts st (Own-call own time) (owned setup st time own)
unfolding owned spoken
acts-owned setup st time own a b =
    acts-session st (Own-call own time) Done (own_call own (session_of st)) _ (λ e o. record { lent = refl; acks = refl; clears = refl })
    (own-numbers (session_of st) b own a)
    refl refl refl refl

acts-lost : (st : State) → Acts st Line-lost (lost st)
unfolding lost
acts-lost st = record {
  notes = refl;
  tells = tells_none st (quiet Done (with_session st (line_lost (session_of st)))) refl refl;
  acks = λ h. contrary h refl;
  marks = λ h m. stands_same st Line-lost (quiet Done (with_session st (line_lost (session_of st)))) h refl refl refl refl refl m;
}

-- ---- a message

-- a slot as the book keeps it: of a report that keeps the rules, and of a correction
record Lawful (s : Slot) : Type 0 where
  lawful : slot_lawful s ≡ true
  is : IsSlot s

lawful-fill : (s : Slot) → fills.Lawful s → Lawful s
lawful-fill s h = record {
  lawful = h.lawful;
  is = record { wide = h.long; marked = inl h.marked; normal = λ t. contrary t (fill-no-entry s h.marked) };
}

lawful-entry : (ps : Pieces) → slot_lawful (entry_in ps) ≡ true → Lawful (entry_in ps)
lawful-entry ps h = record { lawful = h; is = record { wide = entry-long ps; marked = inr (entry-marked ps); normal = λ t. entry-ends ps } }

some_same : (a b : ℕ) → some a ≡ some b → a ≡ b
some_same a b h = cc

module _ (setup : Setup) (st : State) (time s : List ℕ) (safe : Safe st.kept) (o-most : st.kept.o ≤ last_to_send) where
  acts-settled : (len : ℕ) (ps : Pieces) (j : Judged) → Onward (session_of st) j.next → (became_of j.outcome).booked ≡ none
      → Acts st (Message time s) (settled setup st time len ps j)
  unfolding settled spoken
  acts-settled len ps j f u = acts-session st (Message time s) (Framed len j.outcome) j.next _ (λ e o. record { lent = refl; acks = refl; clears = refl }) f refl refl u refl

  acts-passed : (len : ℕ) (ps : Pieces) (o : Outcome) → st.kept.e < nine_digits → (became_of o).booked ≡ none
      → Acts st (Message time s) (settled setup st time len ps (passed o (session_of st)))
  acts-passed len ps o l u = acts-settled len ps (passed o (session_of st)) (passed-numbers (session_of st) o-most (omega arith) o).onward u

  acts-rejected : (len : ℕ) (ps : Pieces) (n : ℕ) (f : Fault) → st.kept.e < nine_digits → Acts st (Message time s) (settled setup st time len ps (rejected (session_of st) n f))
  acts-rejected len ps n f l = acts-settled len ps (rejected (session_of st) n f) (rejected-numbers (session_of st) o-most (omega arith) n f).onward refl

  books-law : (f : Slot) → st.kept.e < nine_digits → slot_lawful f ≡ true → place st.kept.slots st.kept.rows f ≡ placed.New → has_room st.kept.slots st.kept.rows st.kept.load f ≡ true
      → lawful st.kept (booking_note st f) ≡ true
  unfolding lawful bookable
  books-law f l law new room =
      let e : ℕ = st.kept.e + 1 in
      rw (eq-eqb e e refl, le-leb e nine_digits (omega arith), eq-eqb st.kept.o st.kept.o refl, law, ap is_new new, room)

  -- a fill is booked under the next number, and an entry is entered under it
  told-booked : (f : Slot) → (became_of (booked_as st f)).booked ≡ some (length st.kept.slots + 1)
  told-booked f = of-cond (λ (o : Outcome). (became_of o).booked ≡ some (length st.kept.slots + 1)) (is_entry f) (λ _. refl) (λ _. refl)

  acts-booked : (len : ℕ) (f : Slot) → st.kept.e < nine_digits → Lawful f → place st.kept.slots st.kept.rows f ≡ placed.New → has_room st.kept.slots st.kept.rows st.kept.load f ≡ true
      → Acts st (Message time s) (booked st len f)
  unfolding booked after
  acts-booked len f l law new room =
      let q : Kept = st.kept in
      let more : length (q.slots ++ (f ∷ [])) ≡ length q.slots + 1 = length-append q.slots (f ∷ []) in
      record {
        notes = record {
          law = books-law f l law.lawful new room;
          slotted = law.is;
          to = refl;
          says = record { lent = refl; acks = refl; clears = refl };
        };
        tells = λ n. (
          (λ h. (f, record { slots = refl; number = sym (some_same (length q.slots + 1) n (sym (told-booked f) ∙ h)) ∙ sym more })),
          (λ x. told-booked f ∙ ap some (sym more ∙ sym x.1.number)),
        );
        acks = λ h. contrary h refl;
        marks = λ h m. stands-more st (Message time s) (booked st len f) h (f ∷ []) refl refl refl refl refl m;
      }

  acts-placed : (len : ℕ) (ps : Pieces) (n : ℕ) (f : Slot) (p : Placed) → st.kept.e < nine_digits → Lawful f → place st.kept.slots st.kept.rows f ≡ p
      → Acts st (Message time s) (carried_out setup st time len ps (placed_as st n f p))
  unfolding carried_out placed_as with_room
  acts-placed len ps n f placed.New l law e =
      of-cond (λ (d : Deed). Acts st (Message time s) (carried_out setup st time len ps d)) (has_room st.kept.slots st.kept.rows st.kept.load f)
      (λ room. acts-booked len f l law e room)
      (λ _. acts-quiet st (Message time s) (Refused refusal.NoRoom) refl refl refl refl)
  acts-placed len ps n f placed.Already l law e =
      acts-passed len ps outcome.Already l refl
  acts-placed len ps n f (placed.Clash g) l law e =
      acts-rejected len ps n g l

  acts-ruled : (len : ℕ) (ps : Pieces) (n : ℕ) (r : Said) → reported_in ps ≡ r → st.kept.e < nine_digits
      → (rule_fault (report_in ps) ≡ none → Lawful (slot_in ps)) → Acts st (Message time s) (carried_out setup st time len ps (becomes st (of_report (session_of st) (look_of ps) n r)))
  unfolding carried_out becomes of_report
  acts-ruled len ps n (Err f) e l law =
      acts-rejected len ps n f l
  acts-ruled len ps n (Ok reported.Aside) e l law =
      acts-passed len ps outcome.Aside l refl
  acts-ruled len ps n (Ok reported.Fill) e l law =
      acts-placed len ps n (slot_in ps) (place st.kept.slots st.kept.rows (slot_in ps)) l (law (fill-told (look_of ps) e).0) refl

  acts-judged : (len : ℕ) → found_in s ≡ found.Framed len → (v : Verdict) → judge setup (session_of st) (pieces_of (body_in len s)) ≡ v
      → Acts st (Message time s) (carried_out setup st time len (pieces_of (body_in len s)) (becomes st (brought_by (session_of st) (look_of (pieces_of (body_in len s))) v)))
  unfolding carried_out becomes brought_by
  acts-judged len framed-so (Settled j) e =
      let ps : Pieces = pieces_of (body_in len s) in
      let low = safe.sound.expected in
      let unbooked = ap (λ (b : Became). b.booked) (settled-speaks setup (session_of st) s len framed-so (omega arith) (omega arith) j e).became in
      acts-settled len ps j (judge-settles setup (session_of st) ps o-most low j e).onward unbooked
  acts-judged len framed-so (Report n) e =
      let ps : Pieces = pieces_of (body_in len s) in
      let t = judge-report setup (session_of st) ps n e in
      let small = t.most in
      let low : st.kept.e < nine_digits = let z : n ≡ st.kept.e = t.number in omega arith in
      acts-ruled len ps n (reported_in ps) refl low (λ rules. lawful-fill (slot_in ps) (fills.report-lawful setup st.phase st.kept.o ps t.fault t.kind rules))
  acts-judged len framed-so (Correction n) e =
      let ps : Pieces = pieces_of (body_in len s) in
      let t = judge-correction setup (session_of st) ps n e in
      let small = t.most in
      let low : st.kept.e < nine_digits = let z : n ≡ st.kept.e = t.number in omega arith in
      acts-placed len ps n (entry_in ps) (place st.kept.slots st.kept.rows (entry_in ps)) low
      (lawful-entry ps (correction-booked setup st.phase st.kept.o ps t.fault t.kind)) refl

  acts-found : (f : Found) → found_in s ≡ f → Acts st (Message time s) (found_to setup st time s f)
  unfolding found_to framed deed_of brings_of
  acts-found found.More e = acts-quiet st (Message time s) More refl refl refl refl
  acts-found (found.Garbled skip) e = acts-quiet st (Message time s) (Garbled skip) refl refl refl refl
  acts-found (found.Framed len) e = acts-judged len e (judge setup (session_of st) (pieces_of (body_in len s))) refl

  acts-message : Acts st (Message time s) (message setup st time s)
  unfolding message
  acts-message = acts-found (found_in s) refl

-- ---- the queue

shown-next : (st : State) (h : Shown) (f : Slot) (fs : List Slot) → drop st.offered st.kept.slots ≡ f ∷ fs → Stands st h
    → Stands (offering (st.offered + 1) st) (record { base = h.base; given = h.given ++ (line_of (st.offered + 1) f ∷ []) })
shown-next st h f fs e m =
    let l : List Slot = st.kept.slots in
    let n : ℕ = st.offered in
    let b : ℕ = h.base in
    let ln : length l - n ≡ suc (length fs) = sym (length-drop n l) ∙ ap length e in
    let lo : st.kept.acked ≤ n = m.low in
    let hb : b ≤ st.kept.acked = m.base in
    let j : ℕ = n - b in
    let jl : j < length (drop b l) = omega (arith, length-drop b l) in
    let at : b + j ≡ n + 0 = omega arith in
    let el : get_or (drop b l) j [] ≡ f
    = get_or-drop b l j [] ∙ ap (λ (i : ℕ). get_or l i []) at ∙ sym (get_or-drop n l 0 []) ∙ ap (λ (x : List Slot). get_or x 0 []) e in
    let k : n + 1 - b ≡ suc j = omega arith in
    let t : List Slot = take j (drop b l) in
    let lt : length t ≡ j = omega (arith, length-take j (drop b l)) in
    let num : n + 1 ≡ b + 1 + length t = omega arith in
    let more : take (n + 1 - b) (drop b l) ≡ t ++ (f ∷ [])
    = ap (λ (i : ℕ). take i (drop b l)) k ∙ take-suc (drop b l) j [] jl ∙ ap (λ (y : Slot). t ++ (y ∷ [])) el in
    record {
      low = omega arith;
      high = omega arith;
      base = hb;
      given = ap₂ (λ (x : List (List ℕ)) (i : ℕ). x ++ (line_of i f ∷ [])) m.given num
          ∙ sym (lines-append (b + 1) t (f ∷ []))
          ∙ ap (lines_of (b + 1)) (sym more);
    }

acts-offering : (st : State) (fs : List Slot) → drop st.offered st.kept.slots ≡ fs → Acts st Offer (offer_of st (first fs))
acts-offering st [] e = acts-quiet st Offer None refl refl refl refl
acts-offering st (f ∷ fs) e = record {
  notes = refl;
  tells = tells_none st (offer_of st (some f)) refl refl;
  acks = λ h. contrary h refl;
  marks = λ h m. shown-next st h f fs e m;
}

acts-offer : (st : State) → Acts st Offer (offer st)
unfolding offer
acts-offer st = acts-offering st (drop st.offered st.kept.slots) refl

acts-begin : (st : State) → st.kept.acked ≤ length st.kept.slots → Acts st Begin-again (begin_again st)
unfolding begin_again
acts-begin st mk = record {
  notes = refl;
  tells = tells_none st (quiet Done (offering st.kept.acked st)) refl refl;
  acks = λ h. contrary h refl;
  marks = λ h m. stands-anew (offering st.kept.acked st) refl mk;
}

acts-acked : (st : State) (n : ℕ) → n ≤ st.offered → st.kept.acked < n → st.offered ≤ length st.kept.slots
    → Acts st (Acknowledge n) (noting Acked (Acks n) (keeping st (after st.kept (Acks n))))
unfolding after lawful
acts-acked st n h g high = record {
  notes = record {
    law = rw (lt-ltb st.kept.acked n g, le-leb n (length st.kept.slots) (omega arith));
    slotted = tt;
    to = refl;
    says = record { lent = refl; acks = refl; clears = refl };
  };
  tells = tells_none st (noting Acked (Acks n) (keeping st (after st.kept (Acks n)))) refl refl;
  acks = λ h. refl;
  marks = λ x m. record { low = h; high = m.high; base = omega (arith, m.base); given = append-nil x.given ∙ m.given };
}

acts-acknowledge : (st : State) (n : ℕ) → st.offered ≤ length st.kept.slots → n ≤ st.offered → Acts st (Acknowledge n) (acknowledge st n)
unfolding acknowledge
acts-acknowledge st n high h =
    of-cond (Acts st (Acknowledge n)) (leb n st.kept.acked)
    (λ _. acts-quiet st (Acknowledge n) Already refl refl refl refl)
    (λ b. acts-acked st n h (leb-false n st.kept.acked b) high)

nil-of : (l : List Slot) → length l ≡ 0 → l ≡ []
nil-of [] h = refl
nil-of (x ∷ l) h = absurd (suc-ne-zero (length l) h)

empty-path : (q : Kept) → Safe q → is_empty q ≡ true → empty ≡ q
unfolding orders_after count_where
empty-path q safe h =
    let a = and_both (eqb q.e 1 && eqb q.o 1 && eqb (length q.slots) 0) (eqb q.acked 0) h in
    let b = and_both (eqb q.e 1 && eqb q.o 1) (eqb (length q.slots) 0) a.0 in
    let c = and_both (eqb q.e 1) (eqb q.o 1) b.0 in
    let e : q.e ≡ 1 = eqb-true q.e 1 c.0 in
    let o : q.o ≡ 1 = eqb-true q.o 1 c.1 in
    let l : length q.slots ≡ 0 = eqb-true (length q.slots) 0 b.1 in
    let s : q.slots ≡ [] = nil-of q.slots l in
    let nothing : q.load ≡ no_load = safe.sound.load-all ∙ ap load_of s in
    let k : q.acked ≡ 0 = eqb-true q.acked 0 a.1 in
    let r : q.rows ≡ [] = safe.sound.rows_all ∙ ap₂ rows_of s k ∙ rows_empty in
    let d : q.day ≡ 0 = safe.sound.day-all ∙ ap₂ day_of s k ∙ day-empty in
    λ i. record { e = sym e i; o = sym o i; slots = sym s i; rows = sym r i; load = sym nothing i; acked = sym k i; day = sym d i }

tells-day : (st : State) (d : Did) → number_told d.answer ≡ none → d.next.kept.slots ≡ [] → Tells st d
tells-day st d u e n = ((λ h. none-some n (sym u ∙ h)), λ x. no-empty st.kept.slots x.0 (sym e ∙ x.1.slots))

acts-day : (st : State) → Safe st.kept → length st.kept.slots ≤ st.kept.acked → Acts st New-day (new_day st)
unfolding new_day after lawful
acts-day st safe h =
    of-cond (Acts st New-day) (is_empty st.kept)
    (λ e. record {
      notes = empty-path st.kept safe e;
      tells = tells-day st (quiet Done (woken empty)) refl refl;
      acks = λ h. contrary h refl;
      marks = λ x m. stands-anew (woken empty) refl (le_refl 0);
    })
    (λ _. record {
      notes = record {
        law = eq-eqb st.kept.acked (length st.kept.slots) (let z = safe.sound.mark in omega arith);
        slotted = tt;
        to = refl;
        says = record { lent = refl; acks = refl; clears = refl };
      };
      tells = tells-day st (noting Done Clears (woken empty)) refl refl;
      acks = λ h. contrary h refl;
      marks = λ x m. stands-anew (woken empty) refl (le_refl 0);
    })

-- a refused restart changes nothing
acts-restart : (st : State) (notes : List ℕ) (o : Restarting) → restart notes ≡ o → starts_again (Restart notes) ≡ false → Acts st (Restart notes) (restarted st o)
unfolding restarted
acts-restart st notes (Again q whole) e r = contrary (ap is_again e) r
acts-restart st notes (Unlawful at) e r = acts-quiet st (Restart notes) (Refused (refusal.Unlawful at)) refl refl refl refl

-- ---- refusals

pub not-refused : (why : Refusal) (t : Bool) → refuse why t ≡ none → t ≡ false
not-refused why true h = none-some why (sym h)
not-refused why false h = refl

pub neither : (why : Refusal) (t : Bool) (rest : Option Refusal) → or_else (refuse why t) rest ≡ none → (t ≡ false) × (rest ≡ none)
neither why true rest h = none-some why (sym h)
neither why false rest h = (refl, h)

-- a call that can write messages, and is not refused: its time is good, and O is not used up
pub may_write : (setup : Setup) (b : Lent) (time : List ℕ) (allowed : Bool) (o : ℕ) → writing setup b time allowed o ≡ none → (bad_given time ≡ false) × (o ≤ last_to_send)
unfolding writing
may_write setup b time allowed o h =
    let x = neither refusal.ShortBuffer (short_reply b.reply || short_note setup b.note) _ h in
    let y = neither refusal.BadTime (bad_given time) _ x.1 in
    let z = neither refusal.WrongPhase (not allowed) _ y.1 in
    (y.0, ltb-false last_to_send o (not-refused refusal.NumbersUsed (ltb last_to_send o) z.1))

module _ (setup : Setup) where
  acts-unrefused : (st : State) (b : Lent) (w : What) → starts_again w ≡ false → Safe st.kept → st.offered ≤ length st.kept.slots → refusal_of setup st b w ≡ none
      → Acts st w (unrefused setup st w)
  unfolding refusal_of unrefused
  acts-unrefused st b (Own-call own time) r safe high h = acts-owned setup st time own safe.sound.expected (may_write setup b time (may_call own st.phase) st.kept.o h).1
  acts-unrefused st b Line-lost r safe high h = acts-lost st
  acts-unrefused st b (Message time s) r safe high h = acts-message setup st time s safe (may_write setup b time (is_on st.phase) st.kept.o h).1
  acts-unrefused st b Offer r safe high h = acts-offer st
  acts-unrefused st b Begin-again r safe high h = acts-begin st safe.sound.mark
  acts-unrefused st b (Acknowledge n) r safe high h =
      let x = neither refusal.ShortBuffer (short_note setup b.note) _ h in
      acts-acknowledge st n high (ltb-false st.offered n (not-refused refusal.NotOffered (ltb st.offered n) x.1))
  acts-unrefused st b New-day r safe high h =
      let x = neither refusal.ShortBuffer (short_note setup b.note) _ h in
      let y = neither refusal.WrongPhase (is_on st.phase) _ x.1 in
      acts-day st safe (ltb-false st.kept.acked (length st.kept.slots) (not-refused refusal.StillWaiting (ltb st.kept.acked (length st.kept.slots)) y.1))
  acts-unrefused st b (Restart notes) r safe high h = acts-restart st notes (restart notes) refl r

  -- every call but a restart
  pub acts : (st : State) (b : Lent) (w : What) → starts_again w ≡ false → Safe st.kept → st.offered ≤ length st.kept.slots → Acts st w (does setup st b w)
  unfolding does
  acts st b w r safe high = go (refusal_of setup st b w) refl
    where
      go : (o : Option Refusal) → refusal_of setup st b w ≡ o → Acts st w (unless-refused st o (unrefused setup st w))
      go none e = acts-unrefused st b w r safe high e
      go (some why) e = acts-quiet st w (Refused why) refl refl refl refl

-- ---- a call without a note

-- a restart that is not refused
again-silent : (st : State) (o : Restarting) → is_again o ≡ true
    → (number_told (restarted st o).answer ≡ none) × (is_acked (restarted st o).answer ≡ false) × (is_refused (restarted st o).answer ≡ false)
unfolding restarted
again-silent st (Again q whole) h = (refl, refl, refl)
again-silent st (Unlawful at) h = contrary h refl

module _ (setup : Setup) (st : State) (b : Lent) where
  pub starting-silent : (w : What) → starts_again w ≡ true
      → (number_told (does setup st b w).answer ≡ none) × (is_acked (does setup st b w).answer ≡ false) × (is_refused (does setup st b w).answer ≡ false)
  unfolding does refusal_of unrefused
  starting-silent (Own-call own time) h = contrary h refl
  starting-silent Line-lost h = contrary h refl
  starting-silent (Message time s) h = contrary h refl
  starting-silent Offer h = contrary h refl
  starting-silent Begin-again h = contrary h refl
  starting-silent (Acknowledge n) h = contrary h refl
  starting-silent New-day h = contrary h refl
  starting-silent (Restart notes) h = again-silent st (restart notes) h

  acts-silent : (w : What) (d : Did) → Acts st w d → d.note ≡ none → (number_told d.answer ≡ none) × (is_acked d.answer ≡ false)
  acts-silent w d x e = (
    none_told (number_told d.answer) (λ n h. let p = (x.tells n).0 h in
        no-snoc st.kept.slots p.0 (sym (ap (λ (q : Kept). q.slots) (subst (NoteSays st.kept w d.next.kept) e x.notes)) ∙ p.1.slots)),
    ⊎_elim (λ h. contrary (ap is_none e) (x.acks h)) (λ h. h) (bool_case (is_acked d.answer)),
  )
    where
      none_told : (o : Option ℕ) → ((n : ℕ) → o ≡ some n → none ≡ o) → o ≡ none
      none_told none f = refl
      none_told (some n) f = sym (f n refl)

  pub silent : (w : What) → (starts_again w ≡ false → Acts st w (does setup st b w)) → (does setup st b w).note ≡ none
      → (number_told (does setup st b w).answer ≡ none) × (¬ ((does setup st b w).answer ≡ Acked))
  silent w x e =
      let r : (number_told (does setup st b w).answer ≡ none) × (is_acked (does setup st b w).answer ≡ false) =
      ⊎_elim (λ h. let y = starting-silent w h in (y.0, y.1)) (λ h. acts-silent w (does setup st b w) (x h) e) (bool_case (starts_again w)) in
      (r.0, λ h. contrary (ap is_acked h) r.1)
