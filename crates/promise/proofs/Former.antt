-- Request C-14 left every call as it was, but for 58 in what it writes.
use Prim.Native.Nat.{ℕ}
use mathlib.Core.Path.{◌≡◌, refl, sym, ap, ap₂, ◌∙◌, subst}
use mathlib.Core.List.{List, [], ◌∷◌, ◌++◌, append-nil}
use mathlib.Core.Option.{Option, none, some}
use mathlib.Core.Bool.{Bool, true, false, not}
use lib.ListN.{take}
use lib.Dec.{eqb}
use Rattle.text.specs.Decimal.{decimal}
use Rattle.text.specs.Fields.{Field, ◌is◌, said, layout}
use Rattle.frame.specs.Finding.{opening, found_in, body_in}
use Rattle.frame.specs.declared.Found.{Found}
use Rattle.frame.specs.declared.Found.TheVariants as found
use Rattle.field.specs.Pieces.{Pieces, pieces_of, text_at}
use Rattle.answer.specs.declared.Setup.{Setup}
use Rattle.answer.specs.declared.Refusal.{Refusal}
use Rattle.wire.specs.Messages.{framed, place_text, others_of, header_of, fields_of, message_of, number_after, reply_of}
use Rattle.wire.specs.declared.Say.{Say}
use Rattle.wire.specs.declared.Say.TheVariants as say
use Rattle.wire.specs.declared.Reply.{Reply}
use Rattle.wire.specs.declared.Reply.TheVariants.{Nothing, One, Two}
use Rattle.session.specs.Session.{says, own_call}
use Rattle.session.specs.Judging.{word_tag}
use Rattle.session.specs.declared.Session.{Session}
use Rattle.tally.specs.declared.Tally.{Tally}
use Rattle.receiver.specs.State.{State, Did, quiet, session_of, with_session, note_of_change}
use Rattle.receiver.specs.Calls.{spoken, owned, settled, Deed, Refuse, Say as Saying, Keep, deed_of, booked, carried_out, framed as framed_to, found_to, message}
use Rattle.receiver.specs.Receiver.{What, Own-call, Line-lost, Message, Offer, Begin-again, Acknowledge, New-day, Restart, Lent}
use Rattle.receiver.specs.Receiver.{refusal_of, unrefused, unless-refused, does, tally_after, Result, result_of, call}
use Rattle.receiver.specs.declared.Answer.{Answer}
use Rattle.receiver.specs.declared.Answer.TheVariants.{Done, Refused, More, Garbled, Framed}
use Rattle.promise.specs.Sort.{sort_of}
use Rattle.promise.specs.WrittenRead.{stamp_of}
use Rattle.promise.specs.Former.{former_others, reply_by, spoken_by, carried_by, found_by, unrefused_by, call_by, forget, Forgetting, AsBefore, NothingElse}
use Rattle.promise.proofs.WrittenRead.{bare}

-- ---- the call of now is that of what messages say now

reply-now : (setup : Setup) (o : ℕ) (time word : List ℕ) (r : Reply) → reply_of setup o time word r ≡ reply_by others_of setup o time word r
unfolding reply_of message_of
reply-now setup o time word Nothing = refl
reply-now setup o time word (One a) = refl
reply-now setup o time word (Two a b) = refl

module _ (setup : Setup) (st : State) where
  spoken-now : (time word : List ℕ) (a : Answer) (next : Session) (r : Reply) → spoken setup st time word a next r ≡ spoken_by others_of setup st time word a next r
  unfolding spoken
  spoken-now time word a next r =
      ap (λ (s : List ℕ). record { answer = a; next = with_session st next; reply = s; note = note_of_change (session_of st) next; line = [] })
      (reply-now setup st.kept.o time word r)

  carried-now : (time : List ℕ) (len : ℕ) (ps : Pieces) (d : Deed) → carried_out setup st time len ps d ≡ carried_by others_of setup st time len ps d
  unfolding carried_out settled
  carried-now time len ps (Refuse why) = refl
  carried-now time len ps (Saying j) = spoken-now time (text_at (word_tag j.reply) ps) (Framed len j.outcome) j.next j.reply
  carried-now time len ps (Keep s) = refl

  found-now : (time s : List ℕ) (f : Found) → found_to setup st time s f ≡ found_by others_of setup st time s f
  unfolding found_to framed_to
  found-now time s found.More = refl
  found-now time s (found.Garbled skip) = refl
  found-now time s (found.Framed len) = let ps = pieces_of (body_in len s) in carried-now time len ps (deed_of setup st ps)

  unrefused-now : (w : What) → unrefused setup st w ≡ unrefused_by others_of setup st w
  unfolding unrefused owned message
  unrefused-now (Own-call own time) = spoken-now time [] Done (own_call own (session_of st)) (One (says own))
  unrefused-now Line-lost = refl
  unrefused-now (Message time s) = found-now time s (found_in s)
  unrefused-now Offer = refl
  unrefused-now Begin-again = refl
  unrefused-now (Acknowledge n) = refl
  unrefused-now New-day = refl
  unrefused-now (Restart notes) = refl

call-now : (setup : Setup) (st : State) (b : Lent) (t : Tally) (w : What) → call setup st b t w ≡ call_by others_of setup st b t w
unfolding call does
call-now setup st b t w = ap (λ (d : Did). result_of t (unless-refused st (refusal_of setup st b w) d)) (unrefused-now setup st w)

-- ---- what a message says, forgetting 58

reject-forgets : (tagged placed : Bool) (n tag word reason place : List ℕ)
    → forget 58 ((45 is n) ∷ (said tagged ((371 is tag) ∷ []) ++ (372 is word) ∷ (373 is reason) ∷ said placed ((58 is place) ∷ [])))
    ≡ (45 is n) ∷ (said tagged ((371 is tag) ∷ []) ++ (372 is word) ∷ (373 is reason) ∷ [])
reject-forgets true true n tag word reason place = refl
reject-forgets true false n tag word reason place = refl
reject-forgets false true n tag word reason place = refl
reject-forgets false false n tag word reason place = refl

module _ (setup : Setup) (o : ℕ) (time word : List ℕ) where
  message-forgets : (a : Say) → forget 58 (fields_of setup o time word a) ≡ header_of setup o time a ++ former_others o word a
  unfolding header_of
  message-forgets say.Logon = refl
  message-forgets say.Heartbeat = refl
  message-forgets say.Echo = refl
  message-forgets say.Test = refl
  message-forgets say.Logout = refl
  message-forgets (say.Resend from) = refl
  message-forgets (say.Reject n f) =
      ap (λ (fs : List Field). header_of setup o time (say.Reject n f) ++ fs)
      (reject-forgets (not (eqb f.tag 0)) (eqb f.reason 6) (decimal n) (decimal f.tag) (take 3 word) (decimal f.reason) (place_text f.at))
  message-forgets (say.GapFill from to) = refl

abbrev laid : List Field → List ℕ
laid fields = framed opening (layout fields)

reply-forgets : (setup : Setup) (o : ℕ) (time word : List ℕ) (r : Reply)
    → Forgetting 58 setup o time (reply_by others_of setup o time word r) (reply_by former_others setup o time word r)
reply-forgets setup o time word Nothing = record { said = Nothing; word = word; these = refl; those = refl }
reply-forgets setup o time word (One a) = record {
  said = One a;
  word = word;
  these = sym (append-nil _);
  those = sym (append-nil _ ∙ ap laid (message-forgets setup o time word a));
}
reply-forgets setup o time word (Two a b) = record {
  said = Two a b;
  word = word;
  these = ap (λ (s : List ℕ). laid (fields_of setup o time word a) ++ s) (sym (append-nil (laid (fields_of setup (number_after o a) time word b))));
  those = sym (ap₂ ◌++◌ (ap laid (message-forgets setup o time word a)) (append-nil _ ∙ ap laid (message-forgets setup (number_after o a) time word b)));
}

-- ---- a call, forgetting 58

record Same (setup : Setup) (o : ℕ) (time : List ℕ) (now before : Did) : Type 0 where
  answer : now.answer ≡ before.answer
  next : now.next ≡ before.next
  note : now.note ≡ before.note
  line : now.line ≡ before.line
  reply : Forgetting 58 setup o time now.reply before.reply

-- what writes no message
silent : (setup : Setup) (o : ℕ) (time : List ℕ) (d : Did) → d.reply ≡ [] → Same setup o time d d
silent setup o time d e = record { answer = refl; next = refl; note = refl; line = refl; reply = record { said = Nothing; word = []; these = e; those = e } }

module _ (setup : Setup) (st : State) where
  abbrev Alike : List ℕ → Did → Did → Type 0
  Alike time now before = Same setup st.kept.o time now before

  still : (time : List ℕ) (d : Did) → d.reply ≡ [] → Alike time d d
  still time d e = silent setup st.kept.o time d e

  spoken-same : (time word : List ℕ) (a : Answer) (next : Session) (r : Reply)
      → Alike time (spoken_by others_of setup st time word a next r) (spoken_by former_others setup st time word a next r)
  spoken-same time word a next r = record { answer = refl; next = refl; note = refl; line = refl; reply = reply-forgets setup st.kept.o time word r }

  carried_same : (time : List ℕ) (len : ℕ) (ps : Pieces) (d : Deed) → Alike time (carried_by others_of setup st time len ps d) (carried_by former_others setup st time len ps d)
  unfolding booked
  carried_same time len ps (Refuse why) = still time (quiet (Refused why) st) refl
  carried_same time len ps (Saying j) = spoken-same time (text_at (word_tag j.reply) ps) (Framed len j.outcome) j.next j.reply
  carried_same time len ps (Keep s) = still time (booked st len s) refl

  found-same : (time s : List ℕ) (f : Found) → Alike time (found_by others_of setup st time s f) (found_by former_others setup st time s f)
  found-same time s found.More = still time (quiet More st) refl
  found-same time s (found.Garbled skip) = still time (quiet (Garbled skip) st) refl
  found-same time s (found.Framed len) = let ps = pieces_of (body_in len s) in carried_same time len ps (deed_of setup st ps)

  mute : (w : What) → (sort_of w).lent.reply ≡ false → Alike (stamp_of w) (unrefused setup st w) (unrefused setup st w)
  mute w h = still (stamp_of w) (unrefused setup st w) (bare setup st w h).reply

  unrefused-same : (w : What) → Alike (stamp_of w) (unrefused_by others_of setup st w) (unrefused_by former_others setup st w)
  unfolding unrefused
  unrefused-same (Own-call own time) = spoken-same time [] Done (own_call own (session_of st)) (One (says own))
  unrefused-same Line-lost = mute Line-lost refl
  unrefused-same (Message time s) = found-same time s (found_in s)
  unrefused-same Offer = mute Offer refl
  unrefused-same Begin-again = mute Begin-again refl
  unrefused-same (Acknowledge n) = mute (Acknowledge n) refl
  unrefused-same New-day = mute New-day refl
  unrefused-same (Restart notes) = mute (Restart notes) refl

  same-unless : (time : List ℕ) (o : Option Refusal) (now before : Did) → Alike time now before → Alike time (unless-refused st o now) (unless-refused st o before)
  same-unless time none now before h = h
  same-unless time (some why) now before h = still time (quiet (Refused why) st) refl

result-same : (setup : Setup) (o : ℕ) (time : List ℕ) (t : Tally) (now before : Did) → Same setup o time now before
    → AsBefore setup o time (result_of t now) (result_of t before)
result-same setup o time t now before h = record {
  answer = h.answer;
  next = h.next;
  note = h.note;
  line = h.line;
  tally = ap (λ (a : Answer). tally_after a t) h.answer;
  reply = h.reply;
}

pub nothing-else : (setup : Setup) (st : State) (b : Lent) (t : Tally) (w : What) → NothingElse setup st b t w
nothing-else setup st b t w =
    let e = call-now setup st b t w in
    record {
      now = e;
      before = subst (λ (r : Result). AsBefore setup st.kept.o (stamp_of w) r (call_by former_others setup st b t w)) (sym e)
          (result-same setup st.kept.o (stamp_of w) t _ _ (same-unless setup st (stamp_of w) (refusal_of setup st b w) _ _ (unrefused-same setup st w)));
    }
