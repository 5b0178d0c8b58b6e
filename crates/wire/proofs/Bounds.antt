-- How long a message is at most, by the widths of what it is made of: IDs of at most 16 bytes, a time of 21, a word of 32 or 3, numbers of 4 bytes, a place of 8.
--     framed-length     what framing adds to a body
--     others-short, header-short, body-short     the fields
--     message-short     a message has at most 224 bytes, so at most 256
--     reply-short     and a reply, of two such messages, at most 448, so it fits 512
--     reject-short     a Reject with numbers of nine digits, a tag of five and a place of four has at most 154
use mathlib.Core.Path.{◌≡◌, refl}
use mathlib.Core.Bool.{Bool, true, false, not}
use mathlib.Core.List.{List, [], ◌∷◌}
use Prim.Native.Nat.{ℕ, suc, ◌+◌, ◌≤◌, ◌<◌, ◌^◌}
use native.Mathlib.Omega.{arith}
use lib.ListN.{length, take, length-append, length-take}
use lib.Dec.{eqb}
use borrow.Author.Tests.{eqb-true}
use Rattle.octet.specs.Bytes.{bytes_of}
use Rattle.text.specs.Decimal.{decimal}
use Rattle.text.specs.Fields.{Field, ◌is◌, said, layout, field_bytes}
use Rattle.text.proofs.Decimals.{decimal-length}
use Rattle.text.proofs.Layouts.{layout-append, field-length}
use Rattle.frame.specs.Finding.{opening}
use Rattle.answer.specs.Setup.{ours, theirs}
use Rattle.answer.specs.declared.Setup.{Setup}
use Rattle.answer.specs.declared.Fault.{Fault}
use Rattle.wire.specs.declared.Say.{Say}
use Rattle.wire.specs.declared.Say.TheVariants.{Logon, Heartbeat, Echo, Test, Logout, Resend, Reject, GapFill}
use Rattle.wire.specs.declared.Reply.{Reply}
use Rattle.wire.specs.declared.Reply.TheVariants.{Nothing, One, Two}
use Rattle.wire.specs.Messages.{headed, framed, type_of, is_gap_fill, sequence_of, place_text, placed, others_of, header_of, fields_of, message_of, number_after, reply_of}
use Rattle.wire.specs.Sending.{Small}

-- ---- a field, by the digits of its tag, and of its number; and one with a tag of at most 3 digits
field-within : (k t : ℕ) (v : List ℕ) → t < 10 ^ suc k → length (field_bytes (t is v)) ≤ suc k + 2 + length v
field-within k t v h = omega (arith, field-length t v, decimal-length k t h)

number-within : (k m t n : ℕ) → t < 10 ^ suc k → n < 10 ^ suc m → length (field_bytes (t is decimal n)) ≤ suc k + 2 + suc m
number-within k m t n h g = omega (arith, field-within k t (decimal n) h, decimal-length m n g)

part-within : (k t n : ℕ) (v : List ℕ) → t < 10 ^ suc k → length (field_bytes (t is take n v)) ≤ suc k + 2 + n
part-within k t n v h =
    let l : length (take n v) ≤ n = simp length-take (omega arith) in
    omega (arith, field-within k t (take n v) h)

field-short : (t : ℕ) (v : List ℕ) → t < 1000 → length (field_bytes (t is v)) ≤ 5 + length v
field-short t v h = field-within 2 t v h

number_short : (t n : ℕ) → t < 1000 → n < 2 ^ 32 → length (field_bytes (t is decimal n)) ≤ 15
number_short t n h g = number-within 2 9 t n h (omega arith)

part-short : (t n : ℕ) (v : List ℕ) → t < 1000 → length (field_bytes (t is take n v)) ≤ 5 + n
part-short t n v h = part-within 2 t n v h

place-within : (m n : ℕ) → n < 10 ^ suc m → length (field_bytes (58 is place_text n)) ≤ 7 + suc m
place-within m n g = omega (arith, field-within 1 58 (place_text n) (omega arith), length-append (bytes_of "at ") (decimal n), decimal-length m n g)

said-short : (b : Bool) (f : Field) (n : ℕ) → length (field_bytes f) ≤ n → length (layout (said b (f ∷ []))) ≤ n
said-short true f n h = simp length-append (omega arith)
said-short false f n h = omega arith

-- ---- framing
module _ (o b : List ℕ) (short : length b < 1000) where
  pub headed-length : length (headed o b) ≤ length o + length b + 6
  unfolding headed
  headed-length =
      let f = number-within 0 2 9 (length b) (omega arith) short in
      simp length-append (omega arith)

  pub framed-length : length (framed o b) ≤ length o + length b + 13
  unfolding framed
  framed-length =
      let h = headed-length in
      simp length-append (omega arith)

-- ---- the tags after the header
pub others-short : (say : Say) (o : ℕ) (word : List ℕ) → Small say → o < 2 ^ 32 → length (layout (others_of o word say)) ≤ 80
others-short Logon o word s h =
    let a = number_short 98 0 (omega arith) (omega arith) in
    let b = number_short 108 30 (omega arith) (omega arith) in
    simp length-append (omega arith)
others-short Heartbeat o word s h = omega arith
others-short Echo o word s h =
    let a = part-short 112 32 word (omega arith) in
    simp length-append (omega arith)
others-short Test o word s h =
    let a = number_short 112 o (omega arith) h in
    simp length-append (omega arith)
others-short Logout o word s h = omega arith
others-short (Resend from) o word s h =
    let a = number_short 7 from (omega arith) s in
    let b = number_short 16 0 (omega arith) (omega arith) in
    simp length-append (omega arith)
others-short (Reject n f) o word s h =
    let a = number_short 45 n (omega arith) s.0 in
    let b = said-short (not (eqb f.tag 0)) (371 is decimal f.tag) 15 (number_short 371 f.tag (omega arith) s.1.0) in
    let d = part-short 372 3 word (omega arith) in
    let e = number_short 373 f.reason (omega arith) s.1.1 in
    let p = said-short (eqb f.reason 6) (58 is place_text f.at) 27 (place-within 19 f.at (omega arith)) in
    simp (layout-append, length-append) (omega arith)
others-short (GapFill from to) o word s h =
    let a = field-short 123 (bytes_of "Y") (omega arith) in
    let b = number_short 36 to (omega arith) s.1 in
    simp length-append (omega arith)

number_small : (say : Say) (o : ℕ) → Small say → o < 2 ^ 32 → sequence_of o say < 2 ^ 32
number_small Logon o s h = h
number_small Heartbeat o s h = h
number_small Echo o s h = h
number_small Test o s h = h
number_small Logout o s h = h
number_small (Resend from) o s h = h
number_small (Reject n f) o s h = h
number_small (GapFill from to) o s h = s.0

type-short : (say : Say) → length (type_of say) ≡ 1
type-short Logon = refl
type-short Heartbeat = refl
type-short Echo = refl
type-short Test = refl
type-short Logout = refl
type-short (Resend from) = refl
type-short (Reject n f) = refl
type-short (GapFill from to) = refl

-- ---- the whole
module _ (setup : Setup) (p : length (ours setup) ≤ 16) (q : length (theirs setup) ≤ 16) (o : ℕ) (h : o < 2 ^ 32) (time : List ℕ) (say : Say) (s : Small say) where
  pub header-short : length (layout (header_of setup o time say)) ≤ 121
  unfolding header_of
  header-short =
      let t = type-short say in
      let again = is_gap_fill say in
      let a = field-short 35 (type_of say) (omega arith) in
      let b = number_short 34 (sequence_of o say) (omega arith) (number_small say o s h) in
      let d = field-short 49 (ours setup) (omega arith) in
      let e = field-short 56 (theirs setup) (omega arith) in
      let f = said-short again (43 is bytes_of "Y") 6 (field-short 43 (bytes_of "Y") (omega arith)) in
      let g = part-short 52 21 time (omega arith) in
      let i = said-short again (122 is take 21 time) 26 (part-short 122 21 time (omega arith)) in
      simp (layout-append, length-append) (omega arith)

  module _ (word : List ℕ) where
    pub body-short : length (layout (fields_of setup o time word say)) ≤ 201
    body-short =
        let a = header-short in
        let b = others-short say o word s h in
        rw (layout-append, length-append) (omega arith)

    pub message-short : length (message_of setup o time word say) ≤ 224
    unfolding message_of
    message-short =
        let b = body-short in
        let f = framed-length opening (layout (fields_of setup o time word say)) (omega arith) in
        omega arith

-- ---- a Reject, by its digits

-- 373, and 58 where it is 6
reason-within : (f : Fault) → f.reason < 10 ^ 2 → f.at < 10 ^ 4 → length (field_bytes (373 is decimal f.reason)) + length (layout (placed f)) ≤ 17
reason-within f h g = go (eqb f.reason 6) refl
  where
    go : (b : Bool) → eqb f.reason 6 ≡ b → length (field_bytes (373 is decimal f.reason)) + length (layout (said b ((58 is place_text f.at) ∷ []))) ≤ 17
    go true e =
        let a = number-within 2 0 373 f.reason (omega arith) (omega (arith, eqb-true f.reason 6 e)) in
        let b = place-within 3 f.at g in
        simp length-append (omega arith)
    go false e = let a = number-within 2 1 373 f.reason (omega arith) h in omega arith

module _ (setup : Setup) (p : length (ours setup) ≤ 16) (q : length (theirs setup) ≤ 16) (o : ℕ) (h : o < 10 ^ 9) (time word : List ℕ) (n : ℕ) (k : n < 10 ^ 9) (f : Fault) where
  pub reject-short : f.tag < 10 ^ 5 → f.reason < 10 ^ 2 → f.at < 10 ^ 4 → length (message_of setup o time word (Reject n f)) ≤ 154
  unfolding message_of header_of
  reject-short tag reason at =
      let a = number-within 1 8 34 o (omega arith) h in
      let b = field-within 1 49 (ours setup) (omega arith) in
      let c = field-within 1 56 (theirs setup) (omega arith) in
      let d = part-within 1 52 21 time (omega arith) in
      let e = number-within 1 8 45 n (omega arith) k in
      let g = said-short (not (eqb f.tag 0)) (371 is decimal f.tag) 10 (number-within 2 4 371 f.tag (omega arith) tag) in
      let i = part-within 2 372 3 word (omega arith) in
      let j = reason-within f reason at in
      let t = field-within 1 35 (bytes_of "3") (omega arith) in
      let l : length (layout (fields_of setup o time word (Reject n f))) ≤ 131 = simp (layout-append, length-append) (omega arith) in
      omega (arith, framed-length opening (layout (fields_of setup o time word (Reject n f))) (omega arith))

-- ---- "reply buffer under 512": a reply fits
abbrev pub SmallReply : Reply → Type 0
SmallReply Nothing = Unit {0}
SmallReply (One a) = Small a
SmallReply (Two a b) = Small a × Small b

module _ (setup : Setup) (p : length (ours setup) ≤ 16) (q : length (theirs setup) ≤ 16) (o : ℕ) (h : o < 2 ^ 32) (time word : List ℕ) where
  pub reply-short : (r : Reply) → SmallReply r → length (reply_of setup o time word r) ≤ 448
  unfolding reply_of
  reply-short Nothing s = omega arith
  reply-short (One a) s = omega (arith, message-short setup p q o h time a s word)
  reply-short (Two a b) s =
      let m = message-short setup p q o h time a s.0 word in
      let n = message-short setup p q (number_after o a) (omega arith) time b s.1 word in
      simp length-append (omega arith)
