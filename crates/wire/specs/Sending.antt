-- What a write of a message, and of a reply, does to lent bytes: "Lent bytes past what is written stay".
use Rattle.std.specs.Prelude.{ℕ, ◌+◌, ◌^◌, ◌≤◌, ◌<◌, ◌≡◌, List, cond, length, ltb}
use Rattle.octet.specs.Splice.{splice, fits_at}
use Rattle.answer.specs.declared.Fault.{Fault}
use Rattle.wire.specs.declared.Say.{Say}
use Rattle.wire.specs.declared.Say.TheVariants.{Logon, Heartbeat, Echo, Test, Logout, Resend, Reject, GapFill}

-- "at most 256 bytes"; of a Reject, in what calls write, 154; "reply buffer under 512": two messages fit
abbrev pub longest : ℕ
longest = 256

abbrev pub longest_reject : ℕ
longest_reject = 154

abbrev pub reply_room : ℕ
reply_room = 512

-- ---- the numbers of a message are of 4 bytes, a place of 8

abbrev pub SmallFault : Fault → Type 0
SmallFault f = (f.tag < 2 ^ 32) × (f.reason < 2 ^ 32) × (f.at < 2 ^ 64)

abbrev pub Small : Say → Type 0
Small Logon = Unit {0}
Small Heartbeat = Unit {0}
Small Echo = Unit {0}
Small Test = Unit {0}
Small Logout = Unit {0}
Small (Resend from) = from < 2 ^ 32
Small (Reject n f) = (n < 2 ^ 32) × SmallFault f
Small (GapFill from to) = (from < 2 ^ 32) × (to < 2 ^ 32)

-- ---- a message m at a place, where it fits: the bytes, where it ends, and that it is no longer than the paper allows

pub record Sent (old new : List ℕ) (at r : ℕ) (m : List ℕ) : Type 0 where
  pub bytes : new ≡ splice old at m
  pub end : r ≡ cond (fits_at old at m) (at + length m) at
  pub short : length m ≤ longest

-- ---- a reply m from the buffer's start; nothing where that is under 512 bytes, and never more than 512

pub record Replied (old new : List ℕ) (r : ℕ) (m : List ℕ) : Type 0 where
  pub bytes : new ≡ cond (ltb (length old) reply_room) old (splice old 0 m)
  pub end : r ≡ cond (ltb (length old) reply_room) 0 (length m)
  pub short : r ≤ reply_room
