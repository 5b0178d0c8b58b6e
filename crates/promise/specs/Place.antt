-- Request C-14, "Say where it hurts": what 58 of a reply says, by the fault that the call answers with.
use Rattle.std.specs.Prelude.{ℕ, ◌≡◌, List, [], ◌∷◌, ◌++◌, cond, eqb}
use Rattle.std.proofs.Math.Option.{Option, none, some}
use Rattle.octet.specs.Bytes.{bytes_of}
use Rattle.text.specs.Decimal.{decimal}
use Rattle.text.specs.Fields.{Field}
use Rattle.frame.specs.Finding.{found_in, body_in}
use Rattle.frame.specs.declared.Found.TheVariants as found
use Rattle.field.specs.Pieces.{pieces_of}
use Rattle.field.specs.Written.{values_with}
use Rattle.table.specs.Place.{Misformed}
use Rattle.answer.specs.declared.Setup.{Setup}
use Rattle.answer.specs.declared.Fault.{Fault}
use Rattle.receiver.specs.Receiver.{What}
use Rattle.promise.specs.Sort.{sort_of}

-- the values of a tag in messages, one message after another
abbrev pub values_in : ℕ → List (List Field) → List (List ℕ)
values_in tag [] = []
values_in tag (fields ∷ more) = values_with tag fields ++ values_in tag more

-- "Reject then carries 58 with `at ` and the place for reason 6; other reasons carry no 58"
abbrev pub place_said : Option Fault → List (List ℕ)
place_said none = []
place_said (some f) = cond (eqb f.reason 6) ((bytes_of "at " ++ decimal f.at) ∷ []) []

-- the call was given a message that is framed, and the place is where the value of the tag that the Reject names fails its form
pub record Hurts (setup : Setup) (w : What) (f : Fault) : Type 0 where
  pub message : List ℕ
  pub len : ℕ
  pub given : (sort_of w).message ≡ some message
  pub framed : found_in message ≡ found.Framed len
  pub misformed : Misformed setup (pieces_of (body_in len message)) f
