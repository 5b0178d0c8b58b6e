-- What is framed is found: over any opening, a body of fields that begins with its type is framed at its length, and found in the message, whatever follows.
--     framed-found, framed-body
use mathlib.Core.Path.{◌≡◌, refl, sym, ap, ◌∙◌}
use mathlib.Core.List.{List, [], ◌∷◌, ◌++◌, append_assoc, append-nil}
use mathlib.Core.Bool.{true}
use Prim.Native.Nat.{ℕ, ◌≤◌}
use lib.ListN.{length}
use Rattle.octet.specs.Bytes.{bytes_of, until_byte}
use Rattle.text.specs.Decimal.{decimal_by, decimal}
use Rattle.text.specs.Fields.{Field, ◌is◌, field_bytes, layout}
use Rattle.text.proofs.Layouts.{piece, field-text}
use Rattle.frame.specs.Finding.{body_ok, found_by, body_by}
use Rattle.frame.specs.declared.Found.TheVariants.{Framed}
use Rattle.frame.proofs.Bodies.{body-made}
use Rattle.frame.proofs.Written.{written_as, written-body-as}
use Rattle.wire.specs.Messages.{headed, framed}

nine : decimal 9 ≡ bytes_of "9"
unfolding decimal decimal_by
nine = refl

thirty-five : decimal 35 ≡ bytes_of "35"
unfolding decimal decimal_by
thirty-five = refl

headed-is : (o b : List ℕ) → headed o b ≡ o ++ bytes_of "9=" ++ decimal (length b) ++ bytes_of "|" ++ b
unfolding headed field_bytes
headed-is o b = simp (nine, append_assoc)

-- ---- a body of fields: it begins with its type, and ends with `|`
abbrev front : Field → List Field → List ℕ
front f [] = piece f.tag f.value
front f (g ∷ gs) = field_bytes f ++ front g gs

ended : (f : Field) (fs : List Field) → layout (f ∷ fs) ≡ front f fs ++ bytes_of "|"
ended f [] = append-nil (field_bytes f) ∙ field-text f.tag f.value
ended f (g ∷ gs) = ap (λ (l : List ℕ). field_bytes f ++ l) (ended g gs) ∙ sym (append_assoc (field_bytes f) (front g gs) (bytes_of "|"))

typed : (t : List ℕ) (fs : List Field) → layout ((35 is t) ∷ fs) ≡ bytes_of "35=" ++ t ++ bytes_of "|" ++ layout fs
unfolding field_bytes
typed t fs = rw thirty-five

-- ---- over any opening
module _ (o t : List ℕ) (fs : List Field) (plain : until_byte 1 t ≡ length t) (some : 1 ≤ length t) (few : length t ≤ 3) (high : length (layout ((35 is t) ∷ fs)) ≤ 4072) where
  abbrev body : List ℕ
  body = layout ((35 is t) ∷ fs)

  body_ok_lem : body_ok body ≡ true
  body_ok_lem =
      body-made body t (layout fs) (front (35 is t) fs)
      (record { typed = typed t fs; ended = ended (35 is t) fs; plain = plain; some = some; few = few })

  pub framed-found : (rest : List ℕ) → found_by o (framed o body ++ rest) ≡ Framed (length (framed o body))
  unfolding framed
  framed-found rest = written_as o body (headed o body) rest (headed-is o body) body_ok_lem high

  pub framed-body : (rest : List ℕ) → body_by o (length (framed o body)) (framed o body ++ rest) ≡ body
  unfolding framed
  framed-body rest = written-body-as o body (headed o body) rest (headed-is o body) body_ok_lem high
