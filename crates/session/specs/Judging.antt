-- "A framed message is judged in this order": steps 1 to 7 and the table's effects, by what is read off the message (Reading).
--     1  "The first `34=` field is 1 to 999,999,998 .. Else Logout, ended": step1, with Reading's seq_given
--     2  "The first `49=` and then `56=` are the agreed IDs. Else Reject 9 ..": step2, with Reading's ids_given
--     3  "In phase 1: type A numbered E or more ..": step3; logon, welcomed
--     4  "In 2 or 4: type 4 without `123=Y` ignores its number. Otherwise below E .. Above E: a gap ..": step4; reset_mode, below, gap, due, answered
--     5 to 7  the fault that Reading has from the table: in_turn rejects it (rejected_if), logon ends the session by it
--     then the table's column "Effect": effect; moved, logged_out, gap_fill
-- They stand below in the order in which each needs the one before; judge, at the end, is all of them.
use Rattle.std.specs.Prelude.{ℕ, ◌+◌, ◌-◌, min, Bool, true, false, cond, ◌&&◌, ◌||◌, not, leb, ltb, eqb, Some, None, Option as Optional}
use Rattle.std.proofs.Math.Option.{Option, none, some}
use Rattle.octet.specs.Maybe.{is_none}
use Rattle.field.specs.Pieces.{Pieces}
use Rattle.answer.specs.Numbers.{fault, wrong_value, is_kind}
use Rattle.answer.specs.declared.Setup.{Setup}
use Rattle.answer.specs.declared.Phase.{Phase}
use Rattle.answer.specs.declared.Phase.TheVariants as phase
use Rattle.answer.specs.declared.Kind.{Kind}
use Rattle.answer.specs.declared.Kind.TheVariants as kind
use Rattle.answer.specs.declared.Fault.{Fault}
use Rattle.answer.specs.declared.Outcome.{Outcome}
use Rattle.answer.specs.declared.Outcome.TheVariants.{Ended, Rejected, RejectedEnded, Dropped, Gap, In, Heard, Echoed, Filled, Moved}
use Rattle.wire.specs.declared.Say.{Say}
use Rattle.wire.specs.declared.Say.TheVariants as say
use Rattle.wire.specs.declared.Reply.{Reply}
use Rattle.wire.specs.declared.Reply.TheVariants.{Nothing, One, Two}
use Rattle.session.specs.Session.{into, expecting, asking, raised, judged, is_in}
use Rattle.session.specs.Reading.{Facts, facts_in}
use Rattle.session.specs.declared.Session.{Session}
use Rattle.session.specs.declared.Judged.{Judged}
use Rattle.session.specs.declared.Verdict.{Verdict}
use Rattle.session.specs.declared.Verdict.TheVariants.{Settled, Report, Correction}

-- ---- "Else Logout, ended"; "Else Reject 9 naming that tag, then Logout, ended"

abbrev pub ended : Session → Judged
ended s = judged Ended (One say.Logout) (into phase.Ended s)

abbrev pub rejected_ended : Session → ℕ → Fault → Judged
rejected_ended s n f = judged (RejectedEnded f) (Two (say.Reject n f) say.Logout) (into phase.Ended s)

-- ---- step 3: in phase 1

-- "Numbered E: E rises by 1. Above: E stays and a Resend Request follows. Both: phase 2."
abbrev pub welcomed : Session → ℕ → Judged
welcomed s n =
    cond (eqb n s.e)
    (judged In Nothing (into phase.In (raised s)))
    (judged In (One (say.Resend s.e)) (into phase.In (asking s)))

-- "Faulty by steps 5 to 7: Reject and Logout, ended"
abbrev pub logon : Session → ℕ → Option Fault → Judged
logon s n (some f) = rejected_ended s n f
logon s n none = welcomed s n

-- "type A numbered E or more, else Logout, ended"
unfoldable pub step3 : Session → ℕ → Facts → Judged
step3 s n m = cond (is_kind m.kind kind.Logon && leb s.e n) (logon s n m.fault) (ended s)

-- ---- steps 5 to 7 in its turn

-- "type 4 without `123=Y`": reset mode
abbrev pub reset_mode : Facts → Bool
reset_mode m = is_kind m.kind kind.Reset && not m.filling

abbrev pub rejected_to : Session → ℕ → Fault → Judged
rejected_to next n f = judged (Rejected f) (One (say.Reject n f)) next

-- "An in-order message raises E by 1, rejected ones included"
abbrev pub rejected : Session → ℕ → Fault → Judged
rejected s n f = rejected_to (raised s) n f

-- "A rejected type 4 in reset mode leaves E"
unfoldable pub rejected_if : Bool → Session → ℕ → Fault → Judged
rejected_if reset s n f = cond reset (rejected_to s n f) (rejected s n f)

-- nothing is written, and E rises by 1
abbrev pub passed : Outcome → Session → Judged
passed outcome s = judged outcome Nothing (raised s)

abbrev pub heard : Session → Judged
heard s = passed Heard s

-- "36 the smaller of O and tag 16 plus 1 (O for 16=0)"
unfoldable pub filled_to : ℕ → ℕ → ℕ
filled_to o up_to = cond (eqb up_to 0) o (min o (up_to + 1))

abbrev pub gap_fill : Session → Facts → Say
gap_fill s m = say.GapFill m.from (filled_to s.o m.up_to)

-- "Type 4 with 36 above E answers with 36 less the old E. At or below E it is Reject 5 tag 36, except equal to E in reset mode: heard, E stays."
unfoldable pub moved : ℕ → Bool → Session → ℕ → Judged
moved to reset s n =
    cond (ltb s.e to) (judged (Moved (to - s.e)) Nothing (expecting to s))
    (cond (eqb to s.e && reset) (judged Heard Nothing s)
    (rejected_if reset s n (fault wrong_value 36)))

-- "Logout in phase 2, none in 4; ended"
unfoldable pub logged_out : Session → Judged
logged_out s = judged Ended (cond (is_in s.phase) (One say.Logout) Nothing) (into phase.Ended (raised s))

-- the table's column "Effect". Of a report and of a correction the book is to be asked; a Logon and an unlisted type were rejected before
unfoldable pub effect : Session → ℕ → Facts → Kind → Verdict
effect s n m kind.Logon = Settled (heard s)
effect s n m kind.Heartbeat = Settled (heard s)
effect s n m kind.Test = Settled (judged Echoed (One say.Echo) (raised s))
effect s n m kind.Resend = Settled (judged Filled (One (gap_fill s m)) (raised s))
effect s n m kind.Reset = Settled (moved m.to (reset_mode m) s n)
effect s n m kind.Logout = Settled (logged_out s)
effect s n m kind.Report = Report n
effect s n m kind.Correction = Correction n
effect s n m kind.Other = Settled (heard s)
effect s n m kind.Unlisted = Settled (heard s)

unfoldable pub in_turn : Session → ℕ → Facts → Option Fault → Verdict
in_turn s n m (some f) = Settled (rejected_if (reset_mode m) s n f)
in_turn s n m none = effect s n m m.kind

-- ---- step 4: in 2 or 4

-- "below E: with `43=Y` dropped, else Logout, ended"
abbrev pub below : Session → Facts → Judged
below s m = cond m.again (judged Dropped Nothing s) (ended s)

-- one was written for this E
abbrev pub asked_for : Optional ℕ → ℕ → Bool
asked_for (Some e) n = eqb e n
asked_for None n = false

-- "unless one was written for this same E and the message neither has `43=Y` nor is a Heartbeat"
unfoldable pub due : Session → Facts → Bool
due s m = not (asked_for s.asked s.e) || m.again || is_kind m.kind kind.Heartbeat

-- "A faultless Resend Request above E is answered first"
abbrev pub answered : Facts → Bool
answered m = is_kind m.kind kind.Resend && is_none m.fault

-- our request, and before it the gap fill
abbrev pub gap_reply : Session → Say → Bool → Bool → Reply
gap_reply s fill true true = Two fill (say.Resend s.e)
gap_reply s fill true false = One fill
gap_reply s fill false true = One (say.Resend s.e)
gap_reply s fill false false = Nothing

-- "Above E: a gap, not applied, answered by a Resend Request (7=E, 16=0)"
unfoldable pub gap : Session → Facts → Judged
gap s m = judged Gap (gap_reply s (gap_fill s m) (answered m) (due s m)) (cond (due s m) (asking s) s)

-- "type 4 without `123=Y` ignores its number"
unfoldable pub step4 : Session → ℕ → Facts → Verdict
step4 s n m =
    cond (reset_mode m || eqb n s.e) (in_turn s n m m.fault)
    (Settled (cond (ltb n s.e) (below s m) (gap s m)))

-- ---- all steps. A message in phase 0 or 3 is refused before it comes to this

unfoldable pub by_phase : Phase → Session → ℕ → Facts → Verdict
by_phase phase.Out s n m = Settled (judged Dropped Nothing s)
by_phase phase.Sent s n m = Settled (step3 s n m)
by_phase phase.In s n m = step4 s n m
by_phase phase.Ended s n m = Settled (judged Dropped Nothing s)
by_phase phase.Closing s n m = step4 s n m

abbrev pub step2 : Session → ℕ → Facts → Option Fault → Verdict
step2 s n m (some f) = Settled (rejected_ended s n f)
step2 s n m none = by_phase s.phase s n m

abbrev pub step1 : Session → Facts → Option ℕ → Verdict
step1 s m none = Settled (ended s)
step1 s m (some n) = step2 s n m m.ids

unfoldable pub judged_by : Session → Facts → Verdict
judged_by s m = step1 s m m.seq

unfoldable pub judge : Setup → Session → Pieces → Verdict
judge setup s ps = judged_by s (facts_in setup s ps)

-- ---- the tag whose value a reply repeats: 112 of the Test Request that is answered, or 35, the type that is rejected

abbrev pub echoes : Say → Bool
echoes say.Echo = true
echoes say.Logon = false
echoes say.Heartbeat = false
echoes say.Test = false
echoes say.Logout = false
echoes (say.Resend from) = false
echoes (say.Reject n f) = false
echoes (say.GapFill from to) = false

abbrev pub word_tag : Reply → ℕ
word_tag Nothing = 35
word_tag (One a) = cond (echoes a) 112 35
word_tag (Two a b) = 35
