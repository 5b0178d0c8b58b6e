-- "A message we write has 35, 34, 49 (ours), 56, 43 where said, 52 (the given time), 122 where said, then the other tags in the order this paper names them".
use Rattle.std.specs.Prelude.{ℕ, ◌+◌, List, [], ◌∷◌, ◌++◌, Bool, cond, not, length, take, eqb}
use Rattle.std.proofs.Math.Option.{Option, none, some}
use Rattle.octet.specs.Bytes.{bytes_of}
use Rattle.octet.specs.Maybe.{is_none, unless}
use Rattle.text.specs.Decimal.{decimal, check_sum}
use Rattle.text.specs.Fields.{Field, ◌is◌, field_bytes, layout, said}
use Rattle.frame.specs.Finding.{opening, trailer_of}
use Rattle.answer.specs.Setup.{ours, theirs}
use Rattle.answer.specs.Numbers.{counted, wrong_form}
use Rattle.answer.specs.declared.Setup.{Setup}
use Rattle.answer.specs.declared.Fault.{Fault}
use Rattle.wire.specs.declared.Say.{Say}
use Rattle.wire.specs.declared.Say.TheVariants.{Logon, Heartbeat, Echo, Test, Logout, Resend, Reject, GapFill}
use Rattle.wire.specs.declared.Reply.{Reply}
use Rattle.wire.specs.declared.Reply.TheVariants.{Nothing, One, Two}

-- ---- "`8=FIX.4.2|`, `9=`, .. `|`, a body .., `10=`, three digits, `|`", over any opening; "Leading zeros in the length are read, never written"

unfoldable pub headed : List ℕ → List ℕ → List ℕ
headed o body = o ++ field_bytes (9 is decimal (length body)) ++ body

unfoldable pub framed : List ℕ → List ℕ → List ℕ
framed o body = headed o body ++ trailer_of (check_sum (headed o body))

-- ---- what each message has

abbrev pub type_of : Say → List ℕ
type_of Logon = bytes_of "A"
type_of Heartbeat = bytes_of "0"
type_of Echo = bytes_of "0"
type_of Test = bytes_of "1"
type_of Logout = bytes_of "5"
type_of (Resend from) = bytes_of "2"
type_of (Reject n f) = bytes_of "3"
type_of (GapFill from to) = bytes_of "4"

-- "The gap fill is numbered by tag 7"
abbrev pub filled_from : Say → Option ℕ
filled_from Logon = none
filled_from Heartbeat = none
filled_from Echo = none
filled_from Test = none
filled_from Logout = none
filled_from (Resend from) = none
filled_from (Reject n f) = none
filled_from (GapFill from to) = some from

abbrev pub is_gap_fill : Say → Bool
is_gap_fill say = not (is_none (filled_from say))

-- "34 is O unless said"
abbrev pub sequence_of : ℕ → Say → ℕ
sequence_of o say = unless o (filled_from say)

-- "It uses no O; every other message we write uses one"
abbrev pub uses : Say → ℕ
uses say = cond (is_gap_fill say) 0 1

-- "371 where a tag is named"
abbrev pub named : ℕ → List Field
named tag = said (not (eqb tag 0)) ((371 is decimal tag) ∷ [])

-- "Reject then carries 58 with `at ` and the place for reason 6; other reasons carry no 58"
abbrev pub place_text : ℕ → List ℕ
place_text at = bytes_of "at " ++ decimal at

abbrev pub placed : Fault → List Field
placed f = said (eqb f.reason wrong_form) ((58 is place_text f.at) ∷ [])

-- "Reject carries 45, 371 where a tag is named, 372, 373", and last 58 where a form is the fault
abbrev pub reject_of : ℕ → Fault → List ℕ → List Field
reject_of n f word = (45 is decimal n) ∷ (named f.tag ++ (372 is take 3 word) ∷ (373 is decimal f.reason) ∷ placed f)

-- "then the other tags in the order this paper names them". The word is what a message repeats: 112 of a Test Request ("Heartbeat with it"), at most 32 bytes, or the type
-- that is rejected (372), at most 3
abbrev pub others_of : ℕ → List ℕ → Say → List Field
others_of o word Logon = (98 is decimal 0) ∷ (108 is decimal 30) ∷ []
others_of o word Heartbeat = []
others_of o word Echo = (112 is take 32 word) ∷ []
others_of o word Test = (112 is decimal o) ∷ []
others_of o word Logout = []
others_of o word (Resend from) = (7 is decimal from) ∷ (16 is decimal 0) ∷ []
others_of o word (Reject n f) = reject_of n f word
others_of o word (GapFill from to) = (123 is bytes_of "Y") ∷ (36 is decimal to) ∷ []

-- "35, 34, 49 (ours), 56"
abbrev pub lead_of : Setup → ℕ → Say → List Field
lead_of setup o say = (35 is type_of say) ∷ (34 is decimal (sequence_of o say)) ∷ (49 is ours setup) ∷ (56 is theirs setup) ∷ []

-- "43 where said, 52 (the given time), 122 where said"; the gap fill "has 43=Y, 122 equal to 52"
abbrev pub dated_of : List ℕ → Say → List Field
dated_of time say =
    said (is_gap_fill say) ((43 is bytes_of "Y") ∷ []) ++ (52 is take 21 time) ∷ said (is_gap_fill say) ((122 is take 21 time) ∷ [])

unfoldable pub header_of : Setup → ℕ → List ℕ → Say → List Field
header_of setup o time say = lead_of setup o say ++ dated_of time say

abbrev pub fields_of : Setup → ℕ → List ℕ → List ℕ → Say → List Field
fields_of setup o time word say = header_of setup o time say ++ others_of o word say

unfoldable pub message_of : Setup → ℕ → List ℕ → List ℕ → Say → List ℕ
message_of setup o time word say = framed opening (layout (fields_of setup o time word say))

-- ---- a reply: the messages one after another, O counted on (no further than a number of 4 bytes goes)

abbrev pub number_after : ℕ → Say → ℕ
number_after o say = counted o (uses say)

unfoldable pub reply_of : Setup → ℕ → List ℕ → List ℕ → Reply → List ℕ
reply_of setup o time word Nothing = []
reply_of setup o time word (One a) = message_of setup o time word a
reply_of setup o time word (Two a b) = message_of setup o time word a ++ message_of setup (number_after o a) time word b

abbrev pub used_by : Reply → ℕ
used_by Nothing = 0
used_by (One a) = uses a
used_by (Two a b) = uses a + uses b
