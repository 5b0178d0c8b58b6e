-- Request C-14, "No rejection and no reason changes": every call is what it was, but for 58 in what it writes. What a Reject said before is kept here, for this statement alone.
use Rattle.std.specs.Prelude.{ℕ, ◌≡◌, List, [], ◌∷◌, ◌++◌, cond, take, eqb}
use Rattle.text.specs.Decimal.{decimal}
use Rattle.text.specs.Fields.{Field, ◌is◌, layout}
use Rattle.frame.specs.Finding.{opening, found_in, body_in}
use Rattle.frame.specs.declared.Found.{Found}
use Rattle.frame.specs.declared.Found.TheVariants as found
use Rattle.field.specs.Pieces.{Pieces, pieces_of, text_at}
use Rattle.answer.specs.declared.Setup.{Setup}
use Rattle.answer.specs.declared.Fault.{Fault}
use Rattle.wire.specs.Messages.{framed, named, others_of, header_of, number_after}
use Rattle.wire.specs.declared.Say.{Say}
use Rattle.wire.specs.declared.Say.TheVariants as say
use Rattle.wire.specs.declared.Reply.{Reply}
use Rattle.wire.specs.declared.Reply.TheVariants.{Nothing, One, Two}
use Rattle.session.specs.Session.{says, own_call}
use Rattle.session.specs.Judging.{word_tag}
use Rattle.session.specs.declared.Session.{Session}
use Rattle.restart.specs.Restart.{restart}
use Rattle.tally.specs.declared.Tally.{Tally}
use Rattle.receiver.specs.State.{State, Did, quiet, session_of, with_session, note_of_change}
use Rattle.receiver.specs.Calls.{lost, Deed, Refuse, Say as Saying, Keep, deed_of, booked, offer, begin_again, acknowledge, new_day, restarted}
use Rattle.receiver.specs.Receiver.{What, Own-call, Line-lost, Message, Offer, Begin-again, Acknowledge, New-day, Restart}
use Rattle.receiver.specs.Receiver.{Lent, refusal_of, unless-refused, Result, result_of, call}
use Rattle.receiver.specs.declared.Answer.{Answer}
use Rattle.receiver.specs.declared.Answer.TheVariants.{Done, Refused, More, Garbled, Framed}
use Rattle.promise.specs.WrittenRead.{fields_in, stamp_of}

-- ---- before

-- "Reject carries 45, 371 where a tag is named, 372, 373"
abbrev pub former_reject : ℕ → Fault → List ℕ → List Field
former_reject n f word = (45 is decimal n) ∷ (named f.tag ++ (372 is take 3 word) ∷ (373 is decimal f.reason) ∷ [])

-- and every other message says what it said
abbrev pub former_others : ℕ → List ℕ → Say → List Field
former_others o word say.Logon = others_of o word say.Logon
former_others o word say.Heartbeat = others_of o word say.Heartbeat
former_others o word say.Echo = others_of o word say.Echo
former_others o word say.Test = others_of o word say.Test
former_others o word say.Logout = others_of o word say.Logout
former_others o word (say.Resend from) = others_of o word (say.Resend from)
former_others o word (say.Reject n f) = former_reject n f word
former_others o word (say.GapFill from to) = others_of o word (say.GapFill from to)

-- ---- a call looks at what a message says after its header through one function alone: by that it is this function

abbrev pub Others : Type 0
Others = ℕ → List ℕ → Say → List Field

abbrev pub message_by : Others → Setup → ℕ → List ℕ → List ℕ → Say → List ℕ
message_by others setup o time word a = framed opening (layout (header_of setup o time a ++ others o word a))

abbrev pub reply_by : Others → Setup → ℕ → List ℕ → List ℕ → Reply → List ℕ
reply_by others setup o time word Nothing = []
reply_by others setup o time word (One a) = message_by others setup o time word a
reply_by others setup o time word (Two a b) = message_by others setup o time word a ++ message_by others setup (number_after o a) time word b

abbrev pub spoken_by : Others → Setup → State → List ℕ → List ℕ → Answer → Session → Reply → Did
spoken_by others setup st time word a next r = record {
  answer = a;
  next = with_session st next;
  reply = reply_by others setup st.kept.o time word r;
  note = note_of_change (session_of st) next;
  line = [];
}

abbrev pub carried_by : Others → Setup → State → List ℕ → ℕ → Pieces → Deed → Did
carried_by others setup st time len ps (Refuse why) = quiet (Refused why) st
carried_by others setup st time len ps (Saying j) = spoken_by others setup st time (text_at (word_tag j.reply) ps) (Framed len j.outcome) j.next j.reply
carried_by others setup st time len ps (Keep s) = booked st len s

abbrev pub found_by : Others → Setup → State → List ℕ → List ℕ → Found → Did
found_by others setup st time s found.More = quiet More st
found_by others setup st time s (found.Garbled skip) = quiet (Garbled skip) st
found_by others setup st time s (found.Framed len) = let ps = pieces_of (body_in len s) in carried_by others setup st time len ps (deed_of setup st ps)

abbrev pub unrefused_by : Others → Setup → State → What → Did
unrefused_by others setup st (Own-call own time) = spoken_by others setup st time [] Done (own_call own (session_of st)) (One (says own))
unrefused_by others setup st Line-lost = lost st
unrefused_by others setup st (Message time s) = found_by others setup st time s (found_in s)
unrefused_by others setup st Offer = offer st
unrefused_by others setup st Begin-again = begin_again st
unrefused_by others setup st (Acknowledge n) = acknowledge st n
unrefused_by others setup st New-day = new_day st
unrefused_by others setup st (Restart notes) = restarted st (restart notes)

abbrev pub call_by : Others → Setup → State → Lent → Tally → What → Result
call_by others setup st b t w = result_of t (unless-refused st (refusal_of setup st b w) (unrefused_by others setup st w))

-- ---- now and before

-- messages with these fields, one after another; 9 and 10 are of the framing
abbrev pub sent : List (List Field) → List ℕ
sent [] = []
sent (fields ∷ more) = framed opening (layout fields) ++ sent more

-- a tag forgotten, in a message and in each of some
abbrev pub forget : ℕ → List Field → List Field
forget tag [] = []
forget tag (f ∷ fs) = let rest = forget tag fs in cond (eqb f.tag tag) rest (f ∷ rest)

abbrev pub forget_in : ℕ → List (List Field) → List (List Field)
forget_in tag [] = []
forget_in tag (fields ∷ more) = forget tag fields ∷ forget_in tag more

-- where O is o, at this time: the bytes are those of what is said, and were those of the same with the tag forgotten
pub record Forgetting (tag : ℕ) (setup : Setup) (o : ℕ) (time now before : List ℕ) : Type 0 where
  pub said : Reply
  pub word : List ℕ
  pub these : now ≡ sent (fields_in setup o time word said)
  pub those : before ≡ sent (forget_in tag (fields_in setup o time word said))

-- outcome, state, note and tally are equal, the line as well; and forgetting 58, and with it 9 and 10, the reply is the one before
pub record AsBefore (setup : Setup) (o : ℕ) (time : List ℕ) (now before : Result) : Type 0 where
  pub answer : now.did.answer ≡ before.did.answer
  pub next : now.did.next ≡ before.did.next
  pub note : now.did.note ≡ before.did.note
  pub line : now.did.line ≡ before.did.line
  pub tally : now.tally ≡ before.tally
  pub reply : Forgetting 58 setup o time now.did.reply before.did.reply

-- any call, in any state
pub record NothingElse (setup : Setup) (st : State) (b : Lent) (t : Tally) (w : What) : Type 0 where
  pub now : call setup st b t w ≡ call_by others_of setup st b t w
  pub before : AsBefore setup st.kept.o (stamp_of w) (call setup st b t w) (call_by former_others setup st b t w)
