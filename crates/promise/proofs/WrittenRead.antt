-- What we write, our reader reads back: the messages of `wire`, the notes of `note`, and the messages of any call.
use Prim.Native.Nat.{ℕ, ◌^◌, ◌≤◌, ◌<◌}
use mathlib.Core.Path.{◌≡◌, refl, sym, ap, ap₂, ◌∙◌, subst}
use mathlib.Core.List.{List, [], ◌∷◌, ◌++◌, append-nil}
use mathlib.Core.Option.{Option, none, some}
use mathlib.Core.Bool.{Bool, true, false, cond, ◌||◌, not}
use native.Mathlib.Omega.{arith}
use lib.ListN.{length, take}
use lib.Dec.{leb, eqb}
use Rattle.std.specs.Prelude.{Ok, Err}
use Rattle.octet.specs.Bytes.{bytes_of, same}
use Rattle.octet.specs.Maybe.{is_none, or_else, find, find_last}
use Rattle.octet.proofs.Cases.{of-cond, contrary}
use Rattle.text.specs.Decimal.{decimal}
use Rattle.text.specs.Fields.{◌is◌, said}
use Rattle.frame.specs.Finding.{found_in, body_in}
use Rattle.frame.specs.declared.Found.{Found}
use Rattle.frame.specs.declared.Found.TheVariants as found
use Rattle.field.specs.Pieces.{Pieces, pieces_of, text_at}
use Rattle.field.specs.Look.{look_of}
use Rattle.field.specs.Written.{values_with}
use Rattle.table.specs.Place.{Misformed}
use Rattle.answer.specs.Numbers.{fault, counted}
use Rattle.answer.specs.declared.Setup.{Setup}
use Rattle.answer.specs.declared.Fault.{Fault}
use Rattle.answer.specs.declared.Outcome.{Outcome}
use Rattle.answer.specs.declared.Outcome.TheVariants as outcome
use Rattle.answer.specs.declared.Refusal.{Refusal}
use Rattle.answer.specs.declared.Refusal.TheVariants as refusal
use Rattle.wire.specs.Messages.{is_gap_fill, header_of, fields_of, message_of, number_after, reply_of}
use Rattle.wire.specs.Sending.{longest, longest_reject}
use Rattle.wire.specs.Reading.{Clear, Given}
use Rattle.wire.specs.declared.Say.{Say}
use Rattle.wire.specs.declared.Say.TheVariants as say
use Rattle.wire.specs.declared.Reply.{Reply}
use Rattle.wire.specs.declared.Reply.TheVariants.{Nothing, One, Two}
use Rattle.wire.proofs.Bounds.{message-short, reject-short}
use Rattle.wire.proofs.ReadBack as wire
use Rattle.fill.specs.Slot.{Slot, is_entry}
use Rattle.book.specs.Place.{same_exec, same_symbol, same_side, same_contents, by_order, by_exec, place_fill}
use Rattle.book.specs.Rows.{Row, first_for}
use Rattle.book.specs.Entries.{same_key, by_key, place_entry}
use Rattle.book.specs.Admitting.{place, has_room}
use Rattle.book.specs.declared.Placed.{Placed}
use Rattle.book.specs.declared.Placed.TheVariants as placed
use Rattle.note.specs.Notes.{Note, Raises, Books, Acks, Clears, Whole}
use Rattle.note.proofs.Reading.{Fits, note-length, reads-back, reads-part}
use Rattle.note.proofs.Keeping.{Sound}
use Rattle.report.specs.Report.{Report, is_crossed, cum_ok, leaves_ok, tied, status_ok, unless_kept, rule_fault, is_aside, after_rules, reported_of, report_in, reported_in, slot_in}
use Rattle.report.specs.Correction.{entry_in}
use Rattle.report.specs.Report.{Said}
use Rattle.report.specs.declared.Reported.{Reported}
use Rattle.report.specs.declared.Reported.TheVariants as reported
use Rattle.queue.specs.Queue.{next_offer}
use Rattle.restart.specs.Restart.{Outcome as Restarting, Again, Unlawful, restart}
use Rattle.session.specs.Session.{says, is_on, may_call}
use Rattle.session.specs.Judging.{rejected, passed, judge}
use Rattle.session.specs.declared.Own.{Own}
use Rattle.session.specs.declared.Own.TheVariants as own
use Rattle.session.specs.declared.Judged.{Judged}
use Rattle.session.specs.declared.Verdict.{Verdict}
use Rattle.session.specs.declared.Verdict.TheVariants as verdict
use Rattle.session.specs.declared.Verdict.TheVariants.{Settled}
use Rattle.session.proofs.Turns.{judge-report, judge-correction}
use Rattle.receiver.specs.State.{State, Did, quiet, session_of}
use Rattle.receiver.specs.Calls.{spoken, owned, lost, settled, booked_as, booked, Deed, Say as Saying, This, of_report, brought_by, brings_of, with_room, placed_as, becomes, deed_of, carried_out, framed, found_to, message, offer_of, offer, begin_again, acknowledge, is_empty, new_day, restarted}
use Rattle.receiver.specs.Receiver.{What, Own-call, Line-lost, Message, Offer, Begin-again, Acknowledge, New-day, Restart, Lent, writing, refusal_of, unrefused, unless-refused, does}
use Rattle.receiver.specs.declared.Answer.TheVariants as answer
use Rattle.promise.specs.Sort.{sort_of, Became, neither_nor, became_of, became, rejected_for}
use Rattle.promise.specs.Place.{values_in, place_said, Hurts}
use Rattle.promise.specs.World.{world}
use Rattle.promise.specs.WrittenRead.{MessagesReadBack, Writable, NotesReadBack, CallsReadBack}
use Rattle.promise.specs.WrittenRead.{rejecting, Leads, Messages, fields_in, stamp_of, word_in, word_of, has_reject, Replies}
use Rattle.promise.proofs.Executions.{none-some, or-false}
use Rattle.promise.proofs.Acts.{may_write}
use Rattle.promise.proofs.Good.{safe-live, good}
use Rattle.promise.proofs.Reading.{Agreed, agreed, time-clear, type-clear, Told, ToldIf, plainly}
use Rattle.promise.proofs.Speaking.{Sized, sized-small, Sayable, AllSayable, fault_said, fault_told, saying}
use Rattle.promise.proofs.Speaking.{Speaks, rejected-speaks, passed-speaks, settled-speaks}

pub messages-read-back : MessagesReadBack
messages-read-back setup o time word say given = wire.reads-back setup o time word say given

fits : (n : Note) → Writable n → Fits n
fits (Raises e o) h = h
fits (Books e o s) h = h
fits (Acks n) h = h
fits Clears h = h

pub notes-read-back : NotesReadBack
notes-read-back = record {
  whole = λ n rest h. reads-back n rest (fits n h) ∙ ap (Whole n) (sym (note-length n (fits n h)));
  cut = λ n k h less. reads-part n k (subst (λ (m : ℕ). k < m) (note-length n (fits n h)) less);
}

-- ---- one message, and a reply

-- whether it is a Reject, by its type, and what it says in 58

abbrev is_reject : Say → Bool
is_reject a = not (is_none (fault_said a))

type-reject : (setup : Setup) (o : ℕ) (time word : List ℕ) (a : Say) → rejecting (fields_of setup o time word a) ≡ is_reject a
unfolding header_of
type-reject setup o time word say.Logon = refl
type-reject setup o time word say.Heartbeat = refl
type-reject setup o time word say.Echo = refl
type-reject setup o time word say.Test = refl
type-reject setup o time word say.Logout = refl
type-reject setup o time word (say.Resend from) = refl
type-reject setup o time word (say.Reject n f) = refl
type-reject setup o time word (say.GapFill from to) = refl

reject-places : (named placed : Bool) (n tag reason word place : List ℕ)
    → values_with 58 ((45 is n) ∷ (said named ((371 is tag) ∷ []) ++ (372 is word) ∷ (373 is reason) ∷ said placed ((58 is place) ∷ []))) ≡ cond placed (place ∷ []) []
reject-places true true n tag reason word place = refl
reject-places true false n tag reason word place = refl
reject-places false true n tag reason word place = refl
reject-places false false n tag reason word place = refl

message-places : (setup : Setup) (o : ℕ) (time word : List ℕ) (a : Say) → values_with 58 (fields_of setup o time word a) ≡ place_said (fault_said a)
unfolding header_of
message-places setup o time word say.Logon = refl
message-places setup o time word say.Heartbeat = refl
message-places setup o time word say.Echo = refl
message-places setup o time word say.Test = refl
message-places setup o time word say.Logout = refl
message-places setup o time word (say.Resend from) = refl
message-places setup o time word (say.Reject n f) =
    reject-places (not (eqb f.tag 0)) (eqb f.reason 6) (decimal n) (decimal f.tag) (decimal f.reason) (take 3 word) (bytes_of "at " ++ decimal f.at)
message-places setup o time word (say.GapFill from to) = refl

module _ (setup : Setup) (ps : Pieces) (o : ℕ) (time : List ℕ) (ids : Agreed setup) (stamp : Clear time × (length time ≡ 21)) (o-small : o < 999999999) where
  given : (n : ℕ) (word : List ℕ) (a : Say) → n < 10 ^ 9 → Sayable setup ps word a → Given setup n time word a
  given n word a h x = record {
    sender = ids.sender;
    target = ids.target;
    widths = ids.widths;
    stamp = stamp.0;
    long = stamp.1;
    repeated = x.clear;
    number = omega arith;
    small = sized-small setup ps a x.sized;
  }

  after_small : (a : Say) → number_after o a < 10 ^ 9
  after_small a = of-cond (λ (n : ℕ). counted o n < 10 ^ 9) (is_gap_fill a) (λ _. omega arith) (λ _. omega arith)

  abbrev Short : ℕ → List ℕ → Say → Type 0
  Short n word a = length (message_of setup n time word a) ≤ cond (is_reject a) longest_reject longest

  short : (n : ℕ) (word : List ℕ) (a : Say) → n < 10 ^ 9 → Sayable setup ps word a → Short n word a
  short n word a h x = by-type a x.sized (message-short setup ids.widths.0 ids.widths.1 n (omega arith) time a (sized-small setup ps a x.sized) word)
    where
      by-type : (a : Say) → Sized setup ps a → length (message_of setup n time word a) ≤ 224 → Short n word a
      by-type say.Logon x l = omega arith
      by-type say.Heartbeat x l = omega arith
      by-type say.Echo x l = omega arith
      by-type say.Test x l = omega arith
      by-type say.Logout x l = omega arith
      by-type (say.Resend from) x l = omega arith
      by-type (say.Reject k f) x l =
          reject-short setup ids.widths.0 ids.widths.1 n h time word k x.0 f x.1.few.0 x.1.few.1 x.1.place
      by-type (say.GapFill from to) x l = omega arith

  lead : (n : ℕ) (word : List ℕ) (a : Say) (rest : List ℕ) → n < 10 ^ 9 → Sayable setup ps word a
      → Leads (message_of setup n time word a ++ rest) rest (fields_of setup n time word a)
  lead n word a rest h x = record {
    message = message_of setup n time word a;
    front = refl;
    short = subst (λ (b : Bool). length (message_of setup n time word a) ≤ cond b longest_reject longest) (sym (type-reject setup n time word a)) (short n word a h x);
    reads = wire.reads-back setup n time word a (given n word a h x);
  }

  last : (n : ℕ) (word : List ℕ) (a : Say) → n < 10 ^ 9 → Sayable setup ps word a → Messages (message_of setup n time word a) (fields_of setup n time word a ∷ [])
  last n word a h x =
      ([], subst (λ (s : List ℕ). Leads s [] (fields_of setup n time word a)) (append-nil (message_of setup n time word a)) (lead n word a [] h x), refl)

  reply-reads : (word : List ℕ) (r : Reply) → AllSayable setup ps word r → Messages (reply_of setup o time word r) (fields_in setup o time word r)
  unfolding reply_of
  reply-reads word Nothing x = refl
  reply-reads word (One a) x = last o word a (omega arith) x
  reply-reads word (Two a b) x =
      let rest : List ℕ = message_of setup (number_after o a) time word b in
      (rest, lead o word a rest (omega arith) x.0, last (number_after o a) word b (after_small a) x.1)

-- ---- a reply's Reject, and its place

reply-rejects : (setup : Setup) (ps : Pieces) (o : ℕ) (time word : List ℕ) (r : Reply) → AllSayable setup ps word r
    → has_reject (fields_in setup o time word r) ≡ not (is_none (fault_told r))
reply-rejects setup ps o time word Nothing x = refl
reply-rejects setup ps o time word (One a) x = or-false _ ∙ type-reject setup o time word a
reply-rejects setup ps o time word (Two a b) x =
    let k : is_reject b ≡ false = ap (λ (f : Option Fault). not (is_none f)) x.2 in
    ap₂ ◌||◌ (type-reject setup o time word a) (or-false _ ∙ type-reject setup (number_after o a) time word b ∙ k) ∙ or-false _

reply-places : (setup : Setup) (ps : Pieces) (o : ℕ) (time word : List ℕ) (r : Reply) → AllSayable setup ps word r
    → values_in 58 (fields_in setup o time word r) ≡ place_said (fault_told r)
reply-places setup ps o time word Nothing x = refl
reply-places setup ps o time word (One a) x = append-nil _ ∙ message-places setup o time word a
reply-places setup ps o time word (Two a b) x =
    let k : values_with 58 (fields_of setup (number_after o a) time word b) ≡ [] = message-places setup (number_after o a) time word b ∙ ap place_said x.2 in
    ap₂ ◌++◌ (message-places setup o time word a) (append-nil _ ∙ k) ∙ append-nil _

-- the fault that it tells of can be told
said-told : (setup : Setup) (ps : Pieces) (a : Say) → Sized setup ps a → ToldIf setup ps (fault_said a)
said-told setup ps say.Logon x = tt
said-told setup ps say.Heartbeat x = tt
said-told setup ps say.Echo x = tt
said-told setup ps say.Test x = tt
said-told setup ps say.Logout x = tt
said-told setup ps (say.Resend from) x = tt
said-told setup ps (say.Reject n f) x = x.1
said-told setup ps (say.GapFill from to) x = tt

reply-told : (setup : Setup) (ps : Pieces) (word : List ℕ) (r : Reply) → AllSayable setup ps word r → ToldIf setup ps (fault_told r)
reply-told setup ps word Nothing x = tt
reply-told setup ps word (One a) x = said-told setup ps a x.sized
reply-told setup ps word (Two a b) x = said-told setup ps a x.0.sized

-- ---- a call

module _ (setup : Setup) (o : ℕ) (time : List ℕ) (word : Reply → List ℕ) (Hurt : Fault → Type 0) (d : Did) where
  replies-nothing : d.reply ≡ [] → rejected_for d.answer ≡ none → Replies setup o time word Hurt d
  unfolding reply_of
  replies-nothing e h = record {
    reply = Nothing;
    bytes = e;
    read = e;
    rejected = sym (ap (λ (o : Option Fault). not (is_none o)) h);
    placed = sym (ap place_said h);
    hurts = λ f x six. none-some f (sym h ∙ x);
  }

  replies-with : (ps : Pieces) (r : Reply) → Agreed setup → Clear time × (length time ≡ 21) → o < 999999999
      → d.reply ≡ reply_of setup o time (word r) r → AllSayable setup ps (word r) r → became d.answer ≡ saying r
      → ((f : Fault) → fault_told r ≡ some f → Misformed setup ps f → Hurt f) → Replies setup o time word Hurt d
  replies-with ps r ids stamp small e x h hurt = record {
    reply = r;
    bytes = e;
    read = subst (λ (s : List ℕ). Messages s (fields_in setup o time (word r) r)) (sym e) (reply-reads setup ps o time ids stamp small (word r) r x);
    rejected = reply-rejects setup ps o time (word r) r x ∙ ap (λ (b : Became). not (is_none b.rejected)) (sym h);
    placed = reply-places setup ps o time (word r) r x ∙ ap (λ (b : Became). place_said b.rejected) (sym h);
    hurts = λ f told six.
        let e : fault_told r ≡ some f = ap (λ (b : Became). b.rejected) (sym h) ∙ told in
        hurt f e ((subst (ToldIf setup ps) e (reply-told setup ps (word r) r x)).form six);
  }

-- what an own call says
own-sayable : (setup : Setup) (own : Own) → Sayable setup [] [] (says own) × (neither_nor ≡ saying (One (says own)))
own-sayable setup own.Open = (record { sized = tt; clear = tt }, refl)
own-sayable setup own.Beat = (record { sized = tt; clear = tt }, refl)
own-sayable setup own.Ask = (record { sized = tt; clear = tt }, refl)
own-sayable setup own.Close = (record { sized = tt; clear = tt }, refl)

-- ---- the faults of a report, none of them of form

module _ (setup : Setup) (ps : Pieces) where
  wrong : (tag : ℕ) → tag < 10 ^ 5 → Told setup ps (fault 5 tag)
  wrong tag h = plainly setup ps 5 tag (λ e. omega arith) (omega arith) h

  abbrev ToldPlaced : Placed → Type 0
  ToldPlaced placed.New = Unit {0}
  ToldPlaced placed.Already = Unit {0}
  ToldPlaced (placed.Clash f) = Told setup ps f

  order-told : (f : Slot) (o : Option Slot) → ToldPlaced (by_order f o)
  unfolding by_order
  order-told f none = tt
  order-told f (some k) =
      of-cond ToldPlaced (same_symbol f k) (λ _. of-cond ToldPlaced (same_side f k) (λ _. tt) (λ _. wrong 54 (omega arith))) (λ _. wrong 55 (omega arith))

  exec-told : (known : Option Slot) (f : Slot) (o : Option Slot) → ToldPlaced (by_exec f known o)
  unfolding by_exec
  exec-told known f none = order-told f known
  exec-told known f (some k) = of-cond ToldPlaced (same_contents f k) (λ _. tt) (λ _. wrong 17 (omega arith))

  key-told : (e : Slot) (o : Option Slot) → ToldPlaced (by_key e o)
  unfolding by_key
  key-told e none = tt
  key-told e (some k) = of-cond ToldPlaced (same e k) (λ _. tt) (λ _. wrong 20 (omega arith))

  place-told : (ss : List Slot) (rows : List Row) (s : Slot) → ToldPlaced (place ss rows s)
  unfolding place place_entry place_fill
  place-told ss rows s = of-cond ToldPlaced (is_entry s) (λ _. key-told s (find (same_key s) ss)) (λ _. exec-told (first_for ss rows s) s (find_last (same_exec s) ss))

  kept-told : (tag : ℕ) (kept : Bool) → tag < 10 ^ 5 → ToldIf setup ps (unless_kept tag kept)
  kept-told tag kept h = of-cond (ToldIf setup ps) kept (λ _. tt) (λ _. wrong tag h)

  or-told : (p q : Option Fault) → ToldIf setup ps p → ToldIf setup ps q → ToldIf setup ps (or_else p q)
  or-told none q h k = k
  or-told (some f) q h k = h

  rule_told : (r : Report) → ToldIf setup ps (rule_fault r)
  unfolding rule_fault
  rule_told r =
      let n = r.sums in
      let x = is_crossed r.exec_type r.status in
      or-told (unless_kept 14 (cum_ok n)) _ (kept-told 14 (cum_ok n) (omega arith))
      (or-told (unless_kept 151 (leaves_ok x n)) _ (kept-told 151 (leaves_ok x n) (omega arith))
      (or-told (unless_kept 150 (tied x n r.exec_type)) _ (kept-told 150 (tied x n r.exec_type) (omega arith))
      (kept-told 39 (status_ok x r.exec_type r.status) (omega arith))))

  abbrev ToldReported : Said → Type 0
  ToldReported (Err f) = Told setup ps f
  ToldReported (Ok reported.Aside) = Unit {0}
  ToldReported (Ok reported.Fill) = Unit {0}

  rules-told : (aside : Bool) (o : Option Fault) → ToldIf setup ps o → ToldReported (after_rules aside o)
  rules-told aside (some f) h = h
  rules-told aside none h = of-cond (λ (r : Reported). ToldReported (Ok r)) aside (λ _. tt) (λ _. tt)

  reported-told : ToldReported (reported_in ps)
  unfolding reported_of
  reported-told = rules-told (is_aside (look_of ps)) (rule_fault (report_in ps)) (rule_told (report_in ps))

-- ---- the message call

module _ (setup : Setup) (st : State) (time s : List ℕ) (ids : Agreed setup) (stamp : Clear time × (length time ≡ 21))
    (e-small : st.kept.e < 2 ^ 32) (o-small : st.kept.o < 999999999) where
  abbrev Replied : Found → Did → Type 0
  Replied f d = Replies setup st.kept.o time (word_in s f) (Hurts setup (Message time s)) d

  nothing-replied : (f : Found) (d : Did) → d.reply ≡ [] → rejected_for d.answer ≡ none → Replied f d
  nothing-replied f d e h = replies-nothing setup st.kept.o time (word_in s f) (Hurts setup (Message time s)) d e h

  module _ (len : ℕ) (framed-so : found_in s ≡ found.Framed len) where
    abbrev ps : Pieces
    ps = pieces_of (body_in len s)

    abbrev Good : Did → Type 0
    Good d = Replied (found.Framed len) d

    settled-replied : (j : Judged) → Speaks setup ps j → Good (settled setup st time len ps j)
    unfolding settled spoken
    settled-replied j x =
        replies-with setup st.kept.o time (word_in s (found.Framed len)) (Hurts setup (Message time s)) (settled setup st time len ps j) ps j.reply ids stamp o-small refl
        x.said x.became (λ f e m. record { message = s; len = len; given = refl; framed = framed-so; misformed = m })

    -- what is done where d is decided
    abbrev Does : Deed → Type 0
    Does d = Good (carried_out setup st time len ps d)

    said-replied : (j : Judged) → Speaks setup ps j → Does (Saying j)
    unfolding carried_out
    said-replied j x = settled-replied j x

    unrejected : (f : Slot) → (became_of (booked_as st f)).rejected ≡ none
    unrejected f = of-cond (λ (o : Outcome). (became_of o).rejected ≡ none) (is_entry f) (λ _. refl) (λ _. refl)

    booked-replied : (f : Slot) → Does (with_room st f)
    unfolding with_room carried_out booked
    booked-replied f =
        of-cond Does (has_room st.kept.slots st.kept.rows st.kept.load f)
        (λ _. nothing-replied (found.Framed len) (booked st len f) refl (unrejected f))
        (λ _. nothing-replied (found.Framed len) (quiet (answer.Refused refusal.NoRoom) st) refl refl)

    clear : Clear (take 3 (text_at 35 ps))
    clear = type-clear s len framed-so

    module _ (n : ℕ) (n-small : n < 10 ^ 9) where
      placed-replied : (f : Slot) (p : Placed) → ToldPlaced setup ps p → Does (placed_as st n f p)
      unfolding placed_as
      placed-replied f placed.New h = booked-replied f
      placed-replied f placed.Already h = said-replied (passed outcome.Already (session_of st)) (passed-speaks setup ps clear (session_of st) outcome.Already refl)
      placed-replied f (placed.Clash g) h = said-replied (rejected (session_of st) n g) (rejected-speaks setup ps clear (session_of st) n g n-small h)

      brought-replied : (f : Slot) → Does (becomes st (This n f))
      unfolding becomes
      brought-replied f = placed-replied f (place st.kept.slots st.kept.rows f) (place-told setup ps st.kept.slots st.kept.rows f)

      ruled-replied : (r : Said) → ToldReported setup ps r → Does (becomes st (of_report (session_of st) (look_of ps) n r))
      unfolding becomes of_report
      ruled-replied (Err f) h = said-replied (rejected (session_of st) n f) (rejected-speaks setup ps clear (session_of st) n f n-small h)
      ruled-replied (Ok reported.Aside) h = said-replied (passed outcome.Aside (session_of st)) (passed-speaks setup ps clear (session_of st) outcome.Aside refl)
      ruled-replied (Ok reported.Fill) h = brought-replied (slot_in ps)

    judged-replied : (v : Verdict) → judge setup (session_of st) ps ≡ v → Does (becomes st (brought_by (session_of st) (look_of ps) v))
    unfolding becomes brought_by
    judged-replied (Settled j) e = said-replied j (settled-speaks setup (session_of st) s len framed-so e-small (omega arith) j e)
    judged-replied (verdict.Report n) e =
        let x = (judge-report setup (session_of st) ps n e).most in
        ruled-replied n (omega arith) (reported_in ps) (reported-told setup ps)
    judged-replied (verdict.Correction n) e =
        let x = (judge-correction setup (session_of st) ps n e).most in
        brought-replied n (omega arith) (entry_in ps)

  found-replied : (f : Found) → found_in s ≡ f → Replied f (found_to setup st time s f)
  unfolding found_to framed deed_of brings_of
  found-replied found.More e = nothing-replied found.More (quiet answer.More st) refl refl
  found-replied (found.Garbled skip) e = nothing-replied (found.Garbled skip) (quiet (answer.Garbled skip) st) refl refl
  found-replied (found.Framed len) e = judged-replied len e (judge setup (session_of st) (pieces_of (body_in len s))) refl

  message-replied : Replied (found_in s) (message setup st time s)
  unfolding message
  message-replied = found-replied (found_in s) refl

-- ---- a call that is lent no reply buffer writes no message, and answers of no Reject

pub record Bare (d : Did) : Type 0 where
  pub reply : d.reply ≡ []
  pub rejected : rejected_for d.answer ≡ none

offer-bare : (st : State) (o : Option Slot) → Bare (offer_of st o)
offer-bare st none = record { reply = refl; rejected = refl }
offer-bare st (some f) = record { reply = refl; rejected = refl }

again-bare : (st : State) (o : Restarting) → Bare (restarted st o)
unfolding restarted
again-bare st (Again q whole) = record { reply = refl; rejected = refl }
again-bare st (Unlawful at) = record { reply = refl; rejected = refl }

pub bare : (setup : Setup) (st : State) (w : What) → (sort_of w).lent.reply ≡ false → Bare (unrefused setup st w)
unfolding unrefused lost offer begin_again acknowledge new_day
bare setup st (Own-call own time) h = contrary refl h
bare setup st Line-lost h = record { reply = refl; rejected = refl }
bare setup st (Message time s) h = contrary refl h
bare setup st Offer h = offer-bare st (next_offer st.offered st.kept.slots)
bare setup st Begin-again h = record { reply = refl; rejected = refl }
bare setup st (Acknowledge n) h =
    of-cond Bare (leb n st.kept.acked) (λ _. record { reply = refl; rejected = refl }) (λ _. record { reply = refl; rejected = refl })
bare setup st New-day h = of-cond Bare (is_empty st.kept) (λ _. record { reply = refl; rejected = refl }) (λ _. record { reply = refl; rejected = refl })
bare setup st (Restart notes) h = again-bare st (restart notes)

-- ---- every call

module _ (setup : Setup) (st : State) (b : Lent) (ids : Agreed setup) (sound : Sound st.kept) where
  abbrev Fine : What → Did → Type 0
  Fine w d = Replies setup st.kept.o (stamp_of w) (word_of w) (Hurts setup w) d

  nothing_said : (w : What) (d : Did) → d.reply ≡ [] → rejected_for d.answer ≡ none → Fine w d
  nothing_said w d e h = replies-nothing setup st.kept.o (stamp_of w) (word_of w) (Hurts setup w) d e h

  o-fits : (time : List ℕ) (allowed : Bool) → writing setup b time allowed st.kept.o ≡ none → st.kept.o < 999999999
  o-fits time allowed h = let x = (may_write setup b time allowed st.kept.o h).1 in omega arith

  e-fits : st.kept.e < 2 ^ 32
  e-fits = let x = sound.expected in omega arith

  own-said : (own : Own) (time : List ℕ) → writing setup b time (may_call own st.phase) st.kept.o ≡ none → Fine (Own-call own time) (owned setup st time own)
  unfolding owned spoken
  own-said own time h =
      let stamp = time-clear time (may_write setup b time (may_call own st.phase) st.kept.o h).0 in
      let x = own-sayable setup own in
      replies-with setup st.kept.o time (λ (r : Reply). []) (Hurts setup (Own-call own time)) (owned setup st time own) [] (One (says own)) ids stamp
      (o-fits time (may_call own st.phase) h) refl x.0 x.1 (λ f e m. none-some f (ap (λ (b : Became). b.rejected) x.1 ∙ e))

  unsaid : (w : What) → (sort_of w).lent.reply ≡ false → Fine w (unrefused setup st w)
  unsaid w h = let x = bare setup st w h in nothing_said w (unrefused setup st w) x.reply x.rejected

  unrefused-said : (w : What) → refusal_of setup st b w ≡ none → Fine w (unrefused setup st w)
  unfolding refusal_of unrefused
  unrefused-said (Own-call own time) h = own-said own time h
  unrefused-said Line-lost h = unsaid Line-lost refl
  unrefused-said (Message time s) h =
      let x = may_write setup b time (is_on st.phase) st.kept.o h in
      message-replied setup st time s ids (time-clear time x.0) e-fits (o-fits time (is_on st.phase) h)
  unrefused-said Offer h = unsaid Offer refl
  unrefused-said Begin-again h = unsaid Begin-again refl
  unrefused-said (Acknowledge n) h = unsaid (Acknowledge n) refl
  unrefused-said New-day h = unsaid New-day refl
  unrefused-said (Restart notes) h = unsaid (Restart notes) refl

  call-said : (w : What) → Fine w (does setup st b w)
  unfolding does
  call-said w = go (refusal_of setup st b w) refl
    where
      go : (o : Option Refusal) → refusal_of setup st b w ≡ o → Fine w (unless-refused st o (unrefused setup st w))
      go none e = unrefused-said w e
      go (some why) e = nothing_said w (quiet (answer.Refused why) st) refl refl

pub calls-read-back : CallsReadBack
calls-read-back ss c g = call-said c.setup (world ss).live c.lent (agreed c.setup g) (safe-live (world ss) (good ss)).sound c.what
