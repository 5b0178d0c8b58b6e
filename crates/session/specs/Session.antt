-- The session by value, and our own calls: "open (phase 0 or 3; Logon with 98=0 and 108=30; phase 1), heartbeat, test request (112 is O in decimal), close (Logout; phase 4), the
-- last three in phase 2. Each uses one O."
use Rattle.std.specs.Prelude.{ℕ, Bool, ◌||◌, not, eqb, Some, None}
use Rattle.answer.specs.Numbers.{phase_number, counted}
use Rattle.answer.specs.declared.Phase.{Phase}
use Rattle.answer.specs.declared.Phase.TheVariants as phase
use Rattle.answer.specs.declared.Outcome.{Outcome}
use Rattle.wire.specs.Messages.{used_by}
use Rattle.wire.specs.declared.Say.{Say}
use Rattle.wire.specs.declared.Say.TheVariants as say
use Rattle.wire.specs.declared.Reply.{Reply}
use Rattle.wire.specs.declared.Reply.TheVariants.{One}
use Rattle.session.specs.declared.Own.{Own}
use Rattle.session.specs.declared.Own.TheVariants.{Open, Beat, Ask, Close}
use Rattle.session.specs.declared.Session.{Session}
use Rattle.session.specs.declared.Judged.{Judged}

-- "fresh: phase 0, E = O = 1"
abbrev pub fresh : Session
fresh = record { phase = phase.Out; e = 1; o = 1; asked = None }

abbrev pub into : Phase → Session → Session
into p s = record { phase = p; e = s.e; o = s.o; asked = s.asked }

abbrev pub expecting : ℕ → Session → Session
expecting e s = record { phase = s.phase; e = e; o = s.o; asked = s.asked }

-- a Resend Request is written for this E
abbrev pub asking : Session → Session
asking s = record { phase = s.phase; e = s.e; o = s.o; asked = Some s.e }

-- "raises E by 1"
abbrev pub raised : Session → Session
raised s = expecting (counted s.e 1) s

-- "every other message we write uses one"
abbrev pub sending : Reply → Session → Session
sending r s = record { phase = s.phase; e = s.e; o = counted s.o (used_by r); asked = s.asked }

abbrev pub judged : Outcome → Reply → Session → Judged
judged outcome reply s = record { outcome = outcome; next = sending reply s; reply = reply }

-- phase 0 or 3
abbrev pub is_off : Phase → Bool
is_off p = eqb (phase_number p) 0 || eqb (phase_number p) 3

abbrev pub is_in : Phase → Bool
is_in p = eqb (phase_number p) 2

-- "Line lost (phase 1, 2 or 4)"; "a message needs 1, 2 or 4"
abbrev pub is_on : Phase → Bool
is_on p = not (is_off p)

abbrev pub says : Own → Say
says Open = say.Logon
says Beat = say.Heartbeat
says Ask = say.Test
says Close = say.Logout

abbrev pub may_call : Own → Phase → Bool
may_call Open p = is_off p
may_call Beat p = is_in p
may_call Ask p = is_in p
may_call Close p = is_in p

abbrev pub phase_after : Own → Phase
phase_after Open = phase.Sent
phase_after Beat = phase.In
phase_after Ask = phase.In
phase_after Close = phase.Closing

unfoldable pub own_call : Own → Session → Session
own_call what s = sending (One (says what)) (into (phase_after what) s)

-- "Line lost (phase 1, 2 or 4) gives phase 0 and writes nothing"
abbrev pub line_lost : Session → Session
line_lost s = into phase.Out s
