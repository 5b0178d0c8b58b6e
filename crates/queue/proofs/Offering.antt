-- Laws of the queue: what each call answers, case by case; the waiting slots are those above the acknowledged mark, in order; offers after a
-- begin-again give each of them in that order, and then none for ever.
use Prim.Native.Nat.{ℕ, zero, suc, ◌+◌, ◌≤◌, ◌<◌}
use mathlib.Core.Path.{◌≡◌, refl, sym, ap, ◌∙◌}
use mathlib.Core.List.{List, [], ◌∷◌, ◌++◌}
use mathlib.Core.Option.{Option, none, some}
use mathlib.Core.Bool.{cond}
use Rattle.std.specs.Prelude.{Ok, Err, Some, None}
use native.Mathlib.Omega.{arith}
use lib.ListN.{length, drop, get_or, replicate}
use lib.Seq.{drop-drop, get_or-drop}
use borrow.Author.Tests.{lt-ltb, le-ltb, le-leb, lt-leb}
use Rattle.octet.specs.Maybe.{first}
use Rattle.octet.specs.Splice.{splice, fits_at}
use Rattle.octet.proofs.Cases.{cond-true, cond-false}
use Rattle.octet.proofs.Lists.{fits-true}
use Rattle.answer.specs.declared.Refusal.TheVariants as refusal
use Rattle.fill.specs.Slot.{Slot, line_least}
use Rattle.fill.specs.Booked.{line_of}
use Rattle.book.specs.Memory.{slots_in, slot_at}
use Rattle.book.specs.Rows.{day_without}
use Rattle.book.proofs.Regions.{slots-step, slots_end}
use Rattle.answer.specs.declared.Setup.{Setup}
use Rattle.note.specs.Kinds.{note_least}
use Rattle.note.specs.Notes.{Acks, note_bytes}
use Rattle.queue.specs.declared.Marks.{Marks}
use Rattle.queue.specs.Queue.{Offer, Acknowledged, gives, no_marks, offered_up_to, acked_up_to, short_line, next_offer, given_line, offered, written_line, line_after, begun_again, taken_by, acknowledged_by, noted_by, note_after, taken_off, booked_by, book_after, new_day}

-- ---- offer, case by case: the answer and the line
module _ (setup : Setup) (m : Marks) (ss : List Slot) (line : List ℕ) where
  abbrev pub Offered : Offer → List ℕ → Type 0
  Offered r l = (r ≡ offered setup m ss (length line)) × (l ≡ line_after setup m ss line)

  pub offer-short : length line < line_least setup → Offered (Err refusal.ShortBuffer) line
  unfolding offered line_after
  offer-short h = (sym (rw (lt-ltb (length line) (line_least setup) h)), sym (rw (lt-ltb (length line) (line_least setup) h)))

  offer-by : line_least setup ≤ length line → (o : Option Slot) → next_offer m.offered ss ≡ o → Offered (given_line m o) (written_line line m o)
  unfolding offered line_after
  offer-by h o e =
      let t = le-ltb (length line) (line_least setup) h in
      (sym (cond-false (short_line setup (length line)) _ _ t ∙ ap (given_line m) e), sym (cond-false (short_line setup (length line)) _ _ t ∙ ap (written_line line m) e))

  pub offer-none : line_least setup ≤ length line → drop m.offered ss ≡ [] → Offered (Ok None) line
  offer-none h e = offer-by h none (ap first e)

  pub offer-some : (s : Slot) (rest : List Slot) → line_least setup ≤ length line → drop m.offered ss ≡ s ∷ rest
      → Offered (gives (offered_up_to (m.offered + 1) m) (length (line_of (m.offered + 1) s))) (splice line 0 (line_of (m.offered + 1) s))
  offer-some s rest h e = offer-by h (some s) (ap first e)

-- the slots of the lent book
module _ (setup : Setup) (m : Marks) (book line : List ℕ) where
  pub offer-past : line_least setup ≤ length line → m.last ≤ m.offered → Offered setup m (slots_in m.last book) line (Ok None) line
  offer-past h k =
      offer-none setup m (slots_in m.last book) line h (slots_end m.last m.offered book k)

  pub offer-next : (x : Slot) (len : ℕ) (line' : List ℕ) → line_least setup ≤ length line → m.offered < m.last → x ≡ slot_at m.offered book
      → line' ≡ splice line 0 (line_of (m.offered + 1) x) → len ≡ cond (fits_at line 0 (line_of (m.offered + 1) x)) (length (line_of (m.offered + 1) x)) 0
      → length (line_of (m.offered + 1) x) ≤ line_least setup
      → Offered setup m (slots_in m.last book) line (gives (offered_up_to (m.offered + 1) m) len) line'
  offer-next x len line' h k ex el en short =
      let n = m.offered + 1 in
      let s = slot_at m.offered book in
      let g = offer-some setup m (slots_in m.last book) line s _ h (slots-step m.last m.offered book k) in
      let fits : 0 + length (line_of n x) ≤ length line = omega arith in
      let whole : len ≡ length (line_of n s) = en ∙ cond-true (fits_at line 0 (line_of n x)) (length (line_of n x)) 0 (fits-true line 0 (line_of n x) fits) ∙ ap (λ (y : Slot). length (line_of n y)) ex in
      (ap (gives (offered_up_to n m)) whole ∙ g.0, el ∙ ap (λ (y : Slot). splice line 0 (line_of n y)) ex ∙ g.1)

-- ---- acknowledge, case by case: the answer, the book and the note
module _ (setup : Setup) (m : Marks) (n : ℕ) (book note : List ℕ) where
  abbrev ss : List Slot
  ss = slots_in m.last book

  abbrev pub Acked : Acknowledged → List ℕ → List ℕ → Type 0
  Acked r b l = (r ≡ acknowledged_by setup m ss n (length note)) × (b ≡ book_after setup m n book (length note)) × (l ≡ note_after setup m ss n note)

  by_answer : (r : Acknowledged) → acknowledged_by setup m ss n (length note) ≡ r → Acked r (booked_by m n book r) (noted_by note n r)
  unfolding note_after book_after
  by_answer r e = (sym e, sym (ap (booked_by m n book) e), sym (ap (noted_by note n) e))

  pub ack-short : length note < note_least setup → Acked (Err refusal.ShortBuffer) book note
  unfolding acknowledged_by
  ack-short h = by_answer (Err refusal.ShortBuffer) (rw (lt-ltb (length note) (note_least setup) h))

  pub ack-above : note_least setup ≤ length note → m.offered < n → Acked (Err refusal.NotOffered) book note
  unfolding acknowledged_by
  ack-above h k = by_answer (Err refusal.NotOffered) (rw (le-ltb (length note) (note_least setup) h, lt-ltb m.offered n k))

  pub ack-already : note_least setup ≤ length note → n ≤ m.offered → n ≤ m.acked → Acked (Ok None) book note
  unfolding acknowledged_by
  ack-already h k l =
      by_answer (Ok None) (rw (le-ltb (length note) (note_least setup) h, le-ltb m.offered n k, le-leb n m.acked l))

  pub ack-taken : note_least setup ≤ length note → n ≤ m.offered → m.acked < n
      → Acked (Ok (Some (acked_up_to n (day_without m.day (taken_by m n ss)) m))) (taken_off m n book) (splice note 0 (note_bytes (Acks n)))
  unfolding acknowledged_by
  ack-taken h k l =
      by_answer (Ok (Some (acked_up_to n (day_without m.day (taken_by m n ss)) m)))
      (rw (le-ltb (length note) (note_least setup) h, le-ltb m.offered n k, lt-leb n m.acked l))

-- ---- new day
pub day-waiting : (m : Marks) → m.acked < m.last → Err refusal.StillWaiting ≡ new_day m
unfolding new_day
day-waiting m h = sym (rw (lt-ltb m.acked m.last h))

pub day-fresh : (m : Marks) → m.last ≤ m.acked → Ok no_marks ≡ new_day m
unfolding new_day
day-fresh m h = sym (rw (le-ltb m.acked m.last h))

-- ---- the waiting slots are those above the acknowledged mark, in order: the i-th of them, from 0, is number acked + 1 + i
abbrev pub waiting_of : Marks → List Slot → List Slot
waiting_of m ss = drop m.acked ss

pub waiting-nth : (m : Marks) (ss : List Slot) (i : ℕ) → get_or (waiting_of m ss) i [] ≡ get_or ss (m.acked + i) []
waiting-nth m ss i = get_or-drop m.acked ss i []

-- an acknowledge that is taken takes all slots up to n, and leaves the others in their order
pub waiting-after : (m : Marks) (ss : List Slot) (n day : ℕ) → waiting_of (acked_up_to n day m) ss ≡ drop n ss
waiting-after m ss n day = refl

-- ---- offers, one after another
abbrev pub marks_after : Marks → Offer → Marks
marks_after m (Ok (Some g)) = g.marks
marks_after m (Ok None) = m
marks_after m (Err why) = m

abbrev pub offers_of : Setup → ℕ → Marks → List Slot → ℕ → List Offer
offers_of setup zero m ss len = []
offers_of setup (suc k) m ss len = offered setup m ss len ∷ offers_of setup k (marks_after m (offered setup m ss len)) ss len

-- each of ws given, the first of them as number n + 1
abbrev pub given_from : Marks → ℕ → List Slot → List Offer
given_from m n [] = []
given_from m n (w ∷ ws) = gives (offered_up_to (n + 1) m) (length (line_of (n + 1) w)) ∷ given_from m (n + 1) ws

module _ (setup : Setup) (m : Marks) (ss : List Slot) (len : ℕ) (enough : line_least setup ≤ len) where
  pub gives-some : (n : ℕ) (w : Slot) (ws : List Slot) → drop n ss ≡ w ∷ ws → offered setup (offered_up_to n m) ss len ≡ gives (offered_up_to (n + 1) m) (length (line_of (n + 1) w))
  unfolding offered
  gives-some n w ws e = cond-false (short_line setup len) _ _ (le-ltb len (line_least setup) enough) ∙ ap (λ (o : Option Slot). given_line (offered_up_to n m) o) (ap first e)

  pub gives_none : (n : ℕ) → drop n ss ≡ [] → offered setup (offered_up_to n m) ss len ≡ Ok None
  unfolding offered
  gives_none n e = cond-false (short_line setup len) _ _ (le-ltb len (line_least setup) enough) ∙ ap (λ (o : Option Slot). given_line (offered_up_to n m) o) (ap first e)

  none-for-ever : (k n : ℕ) → drop n ss ≡ [] → offers_of setup k (offered_up_to n m) ss len ≡ replicate k (Ok None)
  none-for-ever zero n e = refl
  none-for-ever (suc k) n e =
      ap (λ (r : Offer). r ∷ offers_of setup k (marks_after (offered_up_to n m) r) ss len) (gives_none n e) ∙ ap (λ (l : List Offer). (Ok None) ∷ l) (none-for-ever k n e)

  gives_all : (ws : List Slot) (n k : ℕ) → drop n ss ≡ ws → offers_of setup (length ws + k) (offered_up_to n m) ss len ≡ given_from m n ws ++ replicate k (Ok None)
  gives_all [] n k e = ap (λ (j : ℕ). offers_of setup j (offered_up_to n m) ss len) (let i : 0 + k ≡ k = omega arith in i) ∙ none-for-ever k n e
  gives_all (w ∷ ws) n k e =
      let i : suc (length ws) + k ≡ suc (length ws + k) = omega arith in
      ap (λ (j : ℕ). offers_of setup j (offered_up_to n m) ss len) i
      ∙ ap (λ (r : Offer). r ∷ offers_of setup (length ws + k) (marks_after (offered_up_to n m) r) ss len) (gives-some n w ws e)
      ∙ ap (λ (l : List Offer). gives (offered_up_to (n + 1) m) (length (line_of (n + 1) w)) ∷ l)
      (gives_all ws (n + 1) k (sym (drop-drop 1 n ss) ∙ ap (drop 1) e))

  -- after a begin-again: each waiting slot, in order, then none, however often it is asked
  pub begin-again-gives : (k : ℕ) → offers_of setup (length (waiting_of m ss) + k) (begun_again m) ss len ≡ given_from m m.acked (waiting_of m ss) ++ replicate k (Ok None)
  begin-again-gives k = gives_all (waiting_of m ss) m.acked k refl
