-- "What we write our reader reads back" field for field, whatever is said.
--     reads-back     framed at its length, its body found, its fields sound, each with its value, and numbers as they were
--     header_read    in particular 35, 34, 49, 56 and 52
--     two-read     of a reply of two messages the first is framed, and after it stands the second
use mathlib.Core.Path.{◌≡◌, refl, ap, ◌∙◌}
use mathlib.Core.List.{List, [], ◌∷◌, ◌++◌, append_assoc}
use mathlib.Core.Option.{some}
use mathlib.Core.Bool.{Bool, true, false, not}
use Prim.Native.Nat.{ℕ, ◌+◌, ◌≤◌}
use native.Mathlib.Nat.{le_of_eq}
use native.Mathlib.Omega.{arith}
use lib.ListN.{length, take, drop, length-append}
use lib.Seq.{take_all, drop-append_seam}
use lib.Dec.{eqb}
use Rattle.octet.specs.Bytes.{bytes_of}
use Rattle.octet.specs.Maybe.{first, unless}
use Rattle.text.specs.Decimal.{decimal}
use Rattle.text.specs.Fields.{Field, ◌is◌, said, layout}
use Rattle.text.proofs.Decimals.{decimal-unmarked}
use Rattle.text.proofs.Layouts.{until-past}
use Rattle.frame.specs.Finding.{opening, found_in}
use Rattle.frame.specs.declared.Found.TheVariants.{Framed}
use Rattle.field.specs.Pieces.{Pieces, pieces_of, first_of, text_at}
use Rattle.field.specs.Written.{Each, none, also, Whole, values_with}
use Rattle.field.proofs.Written.{each_append, plain_of, whole, number-whole, values-layout, scan-layout}
use Rattle.value.specs.Readers.{number_read}
use Rattle.value.proofs.Back.{number-back}
use Rattle.answer.specs.declared.Setup.{Setup}
use Rattle.wire.specs.declared.Say.{Say}
use Rattle.wire.specs.declared.Say.TheVariants.{Logon, Heartbeat, Echo, Test, Logout, Resend, Reject, GapFill}
use Rattle.wire.specs.declared.Reply.TheVariants.{Two}
use Rattle.wire.specs.Messages.{type_of, is_gap_fill, sequence_of, place_text, others_of, header_of, fields_of, message_of, number_after, reply_of}
use Rattle.wire.specs.Reading.{Clear, ClearWord, Given, ReadsBack, HeaderRead}
use Rattle.wire.proofs.Bounds.{body-short}
use Rattle.wire.proofs.Framing.{framed-found, framed-body}

-- ---- each field is whole
said-whole : (b : Bool) (f : Field) → Whole f → Each Whole (said b (f ∷ []))
said-whole true f w = also w none
said-whole false f w = none

yes : Clear (bytes_of "Y")
yes = (omega arith, refl)

type-clear : (say : Say) → (length (type_of say) ≡ 1) × Clear (type_of say)
type-clear Logon = (refl, (omega arith, refl))
type-clear Heartbeat = (refl, (omega arith, refl))
type-clear Echo = (refl, (omega arith, refl))
type-clear Test = (refl, (omega arith, refl))
type-clear Logout = (refl, (omega arith, refl))
type-clear (Resend from) = (refl, (omega arith, refl))
type-clear (Reject n f) = (refl, (omega arith, refl))
type-clear (GapFill from to) = (refl, (omega arith, refl))

place-clear : (n : ℕ) → Clear (place_text n)
place-clear n =
    let l : length (place_text n) ≡ 3 + length (decimal n) = length-append (bytes_of "at ") (decimal n) in
    (omega arith, until-past 1 (bytes_of "at ") (decimal n) refl ∙ ap (λ (k : ℕ). 3 + k) (decimal-unmarked n) ∙ omega arith)

others-whole : (say : Say) (o : ℕ) (word : List ℕ) → ClearWord word say → Each Whole (others_of o word say)
others-whole Logon o word c = also (number-whole 98 0 (omega arith) (omega arith)) (also (number-whole 108 30 (omega arith) (omega arith)) none)
others-whole Heartbeat o word c = none
others-whole Echo o word c = also (whole 112 (take 32 word) (omega arith) (omega arith) c) none
others-whole Test o word c = also (number-whole 112 o (omega arith) (omega arith)) none
others-whole Logout o word c = none
others-whole (Resend from) o word c = also (number-whole 7 from (omega arith) (omega arith)) (also (number-whole 16 0 (omega arith) (omega arith)) none)
others-whole (Reject n f) o word c =
    also (number-whole 45 n (omega arith) (omega arith))
    (each_append (said-whole (not (eqb f.tag 0)) (371 is decimal f.tag) (number-whole 371 f.tag (omega arith) (omega arith)))
    (also (whole 372 (take 3 word) (omega arith) (omega arith) c) (also (number-whole 373 f.reason (omega arith) (omega arith))
    (said-whole (eqb f.reason 6) (58 is place_text f.at) (whole 58 (place_text f.at) (omega arith) (omega arith) (place-clear f.at))))))
others-whole (GapFill from to) o word c = also (whole 123 (bytes_of "Y") (omega arith) (omega arith) yes) (also (number-whole 36 to (omega arith) (omega arith)) none)

dated-whole : (again : Bool) (t : List ℕ) → Clear t
    → Each Whole (said again ((43 is bytes_of "Y") ∷ []) ++ (52 is t) ∷ said again ((122 is t) ∷ []))
dated-whole again t c =
    each_append (said-whole again (43 is bytes_of "Y") (whole 43 (bytes_of "Y") (omega arith) (omega arith) yes))
    (also (whole 52 t (omega arith) (omega arith) c) (said-whole again (122 is t) (whole 122 t (omega arith) (omega arith) c)))

-- ---- the first 52, before or after which 43 and 122 may stand
dated-first : (again : Bool) (t : List ℕ) (more : List Field)
    → first (values_with 52 ((said again ((43 is bytes_of "Y") ∷ []) ++ (52 is t) ∷ said again ((122 is t) ∷ [])) ++ more)) ≡ some t
dated-first true t more = refl
dated-first false t more = refl

module _ (setup : Setup) (o : ℕ) (time word : List ℕ) (say : Say) (g : Given setup o time word say) where
  abbrev fields : List Field
  fields = fields_of setup o time word say

  given-time : take 21 time ≡ time
  given-time = take_all 21 time (le_of_eq g.long)

  fields-whole : Each Whole fields
  unfolding header_of
  fields-whole =
      let t : Clear (take 21 time) = rw given-time g.stamp in
      each_append
      (each_append
      (also (whole 35 (type_of say) (omega arith) (omega arith) (type-clear say).1)
      (also (number-whole 34 (sequence_of o say) (omega arith) (omega arith))
      (also (whole 49 _ (omega arith) (omega arith) g.sender) (also (whole 56 _ (omega arith) (omega arith) g.target) none))))
      (dated-whole (is_gap_fill say) (take 21 time) t))
      (others-whole say o word g.repeated)

  short : length (layout fields) ≤ 4072
  short = let b = body-short setup g.widths.0 g.widths.1 o g.number time say g.small word in omega arith

  -- a tag's one value
  one_value : (tag : ℕ) (v : List ℕ) → values_with tag fields ≡ v ∷ [] → text_at tag (pieces_of (layout fields)) ≡ v
  one_value tag v e = ap (λ (vs : Pieces). unless [] (first vs)) (values-layout tag (plain_of fields-whole) ∙ e)

  pub reads-back : ReadsBack (message_of setup o time word say) fields
  unfolding message_of header_of
  reads-back =
      let t = type-clear say in
      record {
        framed = framed-found opening (type_of say) (drop 1 fields) t.1.1 t.1.0 (omega (arith, t.0)) short;
        body = framed-body opening (type_of say) (drop 1 fields) t.1.1 t.1.0 (omega (arith, t.0)) short;
        sound = scan-layout fields-whole;
        values = λ tag. values-layout tag (plain_of fields-whole);
        numbers = λ tag n low high e l h k. ap (number_read low high) (one_value tag (decimal n) e) ∙ number-back low high n l h k;
      }

  first-is : (tag : ℕ) → first_of tag (pieces_of (layout fields)) ≡ first (values_with tag fields)
  first-is tag = ap first (values-layout tag (plain_of fields-whole))

  pub header_read : HeaderRead setup o time say (pieces_of (layout fields))
  unfolding header_of
  header_read =
      record {
        type = first-is 35;
        number = first-is 34;
        sender = first-is 49;
        target = first-is 56;
        stamp = first-is 52 ∙ dated-first (is_gap_fill say) (take 21 time) (others_of o word say) ∙ ap some given-time;
      }

-- ---- a reply of two messages
module _ (setup : Setup) (o : ℕ) (time word : List ℕ) (a b : Say) (g : Given setup o time word a) (rest : List ℕ) where
  abbrev one : List ℕ
  one = message_of setup o time word a

  abbrev other : List ℕ
  other = message_of setup (number_after o a) time word b

  apart : reply_of setup o time word (Two a b) ++ rest ≡ one ++ (other ++ rest)
  unfolding reply_of
  apart = append_assoc one other rest

  pub two-read :
      (found_in (reply_of setup o time word (Two a b) ++ rest) ≡ Framed (length one))
      × (drop (length one) (reply_of setup o time word (Two a b) ++ rest) ≡ other ++ rest)
  two-read =
      (ap found_in apart ∙ (reads-back setup o time word a g).framed (other ++ rest), ap (drop (length one)) apart ∙ drop-append_seam one (other ++ rest))
