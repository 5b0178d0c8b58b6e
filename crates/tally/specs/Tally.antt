-- "The tally of booked, already booked, rejected (a Reject written) and garbled .. brought up to date by each message call".
use Rattle.std.specs.Prelude.{ℕ, Option, Some, None}
use Rattle.answer.specs.Numbers.{counted}
use Rattle.answer.specs.declared.Outcome.{Outcome}
use Rattle.answer.specs.declared.Outcome.TheVariants as outcome
use Rattle.tally.specs.declared.Tally.{Tally}
use Rattle.tally.specs.declared.Which.{Which}
use Rattle.tally.specs.declared.Which.TheVariants.{Booked, Already, Rejected, Garbled}

abbrev pub none_yet : Tally
none_yet = record { booked = 0; already = 0; rejected = 0; garbled = 0 }

-- "a count stops at 4,294,967,295"
unfoldable pub up : ℕ → ℕ
up n = counted n 1

abbrev pub one_booked : Tally → Tally
one_booked t = record { booked = up t.booked; already = t.already; rejected = t.rejected; garbled = t.garbled }

abbrev pub one_already : Tally → Tally
one_already t = record { booked = t.booked; already = up t.already; rejected = t.rejected; garbled = t.garbled }

abbrev pub one_rejected : Tally → Tally
one_rejected t = record { booked = t.booked; already = t.already; rejected = up t.rejected; garbled = t.garbled }

abbrev pub one_garbled : Tally → Tally
one_garbled t = record { booked = t.booked; already = t.already; rejected = t.rejected; garbled = up t.garbled }

-- one more of a count
abbrev pub one : Which → Tally → Tally
one Booked t = one_booked t
one Already t = one_already t
one Rejected t = one_rejected t
one Garbled t = one_garbled t

-- which count a framed message raises, by what became of it: "rejected (a Reject written)", whether or not the session goes on. A correction that is entered is booked
abbrev pub count_of : Outcome → Option Which
count_of (outcome.Booked n step) = Some Booked
count_of (outcome.Entered n) = Some Booked
count_of outcome.Already = Some Already
count_of (outcome.Rejected f) = Some Rejected
count_of (outcome.RejectedEnded f) = Some Rejected
count_of outcome.Ended = None
count_of outcome.Dropped = None
count_of outcome.Gap = None
count_of outcome.In = None
count_of outcome.Heard = None
count_of outcome.Echoed = None
count_of outcome.Filled = None
count_of (outcome.Moved n) = None
count_of outcome.Aside = None

-- the tally with that count one up, where a message raises one
abbrev pub tallied : Option Which → Tally → Tally
tallied (Some which) t = one which t
tallied None t = t
