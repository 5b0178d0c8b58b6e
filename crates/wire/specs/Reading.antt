-- "What we write our reader reads back" field for field: what is asked of what is given, and what is then read.
use Rattle.std.specs.Prelude.{ℕ, ◌^◌, ◌≤◌, ◌<◌, ◌≡◌, List, [], ◌∷◌, ◌++◌, length, take, Ok}
use Rattle.std.proofs.Math.Option.{some}
use Rattle.octet.specs.Bytes.{until_byte}
use Rattle.text.specs.Decimal.{decimal}
use Rattle.text.specs.Fields.{Field, layout}
use Rattle.frame.specs.Finding.{found_in, body_in}
use Rattle.frame.specs.declared.Found.TheVariants.{Framed}
use Rattle.field.specs.Pieces.{Pieces, pieces_of, values_of, first_of, text_at, scan_of}
use Rattle.field.specs.Written.{values_with}
use Rattle.value.specs.Readers.{number_read}
use Rattle.answer.specs.Setup.{ours, theirs}
use Rattle.answer.specs.declared.Setup.{Setup}
use Rattle.wire.specs.declared.Say.{Say}
use Rattle.wire.specs.declared.Say.TheVariants.{Logon, Heartbeat, Echo, Test, Logout, Resend, Reject, GapFill}
use Rattle.wire.specs.Messages.{type_of, sequence_of}
use Rattle.wire.specs.Sending.{Small}

-- ---- what is asked

-- a text that a field can hold: not empty, and without `|`
abbrev pub Clear : List ℕ → Type 0
Clear v = (1 ≤ length v) × (until_byte 1 v ≡ length v)

-- the word, where it is written
abbrev pub ClearWord : List ℕ → Say → Type 0
ClearWord word Logon = Unit {0}
ClearWord word Heartbeat = Unit {0}
ClearWord word Echo = Clear (take 32 word)
ClearWord word Test = Unit {0}
ClearWord word Logout = Unit {0}
ClearWord word (Resend from) = Unit {0}
ClearWord word (Reject n f) = Clear (take 3 word)
ClearWord word (GapFill from to) = Unit {0}

-- texts that fields can hold, IDs of at most 16 bytes, a time of 21, numbers of 4 bytes
pub record Given (setup : Setup) (o : ℕ) (time word : List ℕ) (say : Say) : Type 0 where
  pub sender : Clear (ours setup)
  pub target : Clear (theirs setup)
  pub widths : (length (ours setup) ≤ 16) × (length (theirs setup) ≤ 16)
  pub stamp : Clear time
  pub long : length time ≡ 21
  pub repeated : ClearWord word say
  pub number : o < 2 ^ 32
  pub small : Small say

-- ---- what is read of a message m with these fields

pub record ReadsBack (m : List ℕ) (fields : List Field) : Type 0 where
  -- whatever follows, it is framed at its length, and its body found
  pub framed : (rest : List ℕ) → found_in (m ++ rest) ≡ Framed (length m)
  pub body : (rest : List ℕ) → body_in (length m) (m ++ rest) ≡ layout fields
  -- each piece of the body is a field, and of every tag the values are those that were laid out, in order
  pub sound : scan_of (pieces_of (layout fields)) ≡ Ok tt
  pub values : (tag : ℕ) → values_of tag (pieces_of (layout fields)) ≡ values_with tag fields
  -- a number of up to 9 digits is read as that number
  pub numbers : (tag n low high : ℕ) → values_with tag fields ≡ decimal n ∷ [] → low ≤ n → n ≤ high → n < 10 ^ 9
      → number_read low high (text_at tag (pieces_of (layout fields))) ≡ Ok n

-- ---- what the session reads of every message, by its pieces

pub record HeaderRead (setup : Setup) (o : ℕ) (time : List ℕ) (say : Say) (ps : Pieces) : Type 0 where
  pub type : first_of 35 ps ≡ some (type_of say)
  pub number : first_of 34 ps ≡ some (decimal (sequence_of o say))
  pub sender : first_of 49 ps ≡ some (ours setup)
  pub target : first_of 56 ps ≡ some (theirs setup)
  pub stamp : first_of 52 ps ≡ some time
