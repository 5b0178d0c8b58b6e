-- Laws of one note as the code takes it: when a note is lawful, test by test; the counts and the memory after it are what is kept after it; and
-- what the step says of the whole restart.
use Prim.Native.Nat.{ℕ, ◌+◌, ◌-◌, ◌≤◌, ◌<◌}
use mathlib.Core.Path.{◌≡◌, refl, sym, ap, ap₂, ◌∙◌, subst}
use mathlib.Core.Logic.{⊎_elim}
use mathlib.Core.List.{List, [], ◌∷◌, ◌++◌}
use mathlib.Core.Bool.{Bool, true, false, cond, ◌&&◌, ◌||◌}
use native.Mathlib.Omega.{arith}
use lib.ListN.{length, drop, length-append, length-drop}
use lib.Seq.{drop-drop}
use lib.Dec.{leb, ltb, eqb}
use Rattle.octet.proofs.Cases.{cond-true, cond-false, of-cond, and-no-left, bool_case}
use Rattle.octet.specs.Bytes.{joined}
use Rattle.octet.proofs.Lists.{drop-done, splice-length}
use Rattle.answer.specs.Numbers.{largest, nine_digits}
use Rattle.fill.specs.Slot.{Slot, slot_width}
use Rattle.fill.specs.Booked.{slot_lawful}
use Rattle.book.specs.Memory.{most_slots, book_width, region_of, slots_here, rows_here, slots_in, rows_in, laid, entered, holding, between}
use Rattle.book.specs.Rows.{Row, row_width, row_to, day_with, rows_without, day_without}
use Rattle.book.specs.Place.{is_new, most_orders}
use Rattle.book.specs.Admitting.{place, has_room, no_load, load_with, booking_of, admit_of}
use Rattle.book.specs.declared.Admitted.{Admitted}
use Rattle.book.specs.declared.Load.{Load}
use Rattle.book.proofs.Placing.{has_room_lem, booking-load}
use Rattle.book.proofs.Cells.{cells-none, Wide, none-wide, more-wide}
use Rattle.book.proofs.Regions.{slots_length, rows-length, holding-slots, holding-rows}
use Rattle.book.proofs.Written.{entered-slots, entered-rows, entered-length, taken-slots, taken-read}
use Rattle.book.proofs.Stored.{rows-are-wide}
use Rattle.note.specs.Notes.{Note, Raises, Books, Acks, Clears, Reading, Whole, Part, Unknown, read_note, size_taken}
use Rattle.note.specs.Kept.{Kept, empty, bookable, lawful, after}
use Rattle.note.proofs.Keeping.{Slotted, read_is, lawful-books, bookable-facts, AllSlots, Sound, rows-many}
use Rattle.restart.specs.declared.Counts.{Counts}
use Rattle.restart.specs.declared.Step.{Step}
use Rattle.restart.specs.declared.Step.TheVariants as step
use Rattle.restart.specs.declared.Restarted.{Restarted}
use Rattle.std.specs.Prelude.{Result, Ok, Err}
use Rattle.restart.specs.Restart.{Outcome, Again, Unlawful, restart, counts_of, tells, told, book_after, HasDay, load_in}
use Rattle.restart.specs.Steps.{kept_in, bare, is_next, step_note, step_read, mem_note, mem_read}
use Rattle.restart.proofs.Going.{go, restart-go, go-end, go-part, go-unknown, go-bad, go_on, some-taken, GivenIn}

-- ---- lawful, test by test
module _ (q : Kept) where
  pub raises-by : (e o : ℕ) {a b c d f : Bool} → ltb q.e e || ltb q.o o ≡ a → leb q.e e ≡ b → leb q.o o ≡ c → leb e nine_digits ≡ d → leb o nine_digits ≡ f
      → a && b && c && d && f ≡ lawful q (Raises e o)
  unfolding lawful
  raises-by e o ea eb ec ed ef = cc

  pub acks-by : (n : ℕ) {a b : Bool} → ltb q.acked n ≡ a → leb n (length q.slots) ≡ b → a && b ≡ lawful q (Acks n)
  unfolding lawful
  acks-by n ea eb = cc

  pub clears-by : {a : Bool} → eqb q.acked (length q.slots) ≡ a → a ≡ lawful q Clears
  unfolding lawful
  clears-by ea = sym ea

  pub step-no : (n : Note) → false ≡ lawful q n → step.Bad ≡ step_note q n
  unfolding step_note
  step-no n t = sym (cond-false (lawful q n) (step.On (counts_of (after q n))) step.Bad (sym t))

  pub step-yes : (n : Note) (k : Counts) → true ≡ lawful q n → k ≡ counts_of (after q n) → step.On k ≡ step_note q n
  unfolding step_note
  step-yes n k t e = ap step.On e ∙ sym (cond-true (lawful q n) (step.On (counts_of (after q n))) step.Bad (sym t))

pub bookable-by : (ss : List Slot) (rows : List Row) (load : Load) (s : Slot) {a b c : Bool} → slot_lawful s ≡ a → is_new (place ss rows s) ≡ b → has_room ss rows load s ≡ c
    → a && b && c ≡ bookable ss rows load s
unfolding bookable
bookable-by ss rows load s ea eb ec = cc

-- an F or a C note whose numbers are not the next, and one whose numbers are
pub next-by : (m : Counts) (e o : ℕ) {a b c : Bool} → eqb e (m.e + 1) ≡ a → leb e nine_digits ≡ b → eqb o m.o ≡ c → a && b && c ≡ is_next m e o
next-by m e o ea eb ec = cc

-- what becomes of its slot, as the book is asked it
pub admits : (m : Counts) (mem : List ℕ) (s : Slot) (k : ℕ) (load : Load) (r : Admitted) → k ≡ m.last → load ≡ load_in m
    → r ≡ admit_of (slots_in k mem) (rows_in load.orders mem) load s → admit_of (slots_in m.last mem) (rows_in m.orders mem) (load_in m) s ≡ r
admits m mem s k load r e el f = ap₂ (λ (n : ℕ) (l : Load). admit_of (slots_in n mem) (rows_in l.orders mem) l s) (sym e) (sym el) ∙ sym f

module _ (m : Counts) (mem : List ℕ) (e o : ℕ) (s : Slot) where
  pub books-out : is_next m e o ≡ false → false ≡ lawful (kept_in m mem) (Books e o s)
  unfolding lawful
  books-out h = sym (and-no-left (is_next m e o) (bookable (slots_in m.last mem) (rows_in m.orders mem) (load_in m) s) h)

  pub books-next : {d : Bool} → is_next m e o ≡ true → d ≡ bookable (slots_in m.last mem) (rows_in m.orders mem) (load_in m) s → d ≡ lawful (kept_in m mem) (Books e o s)
  unfolding lawful
  books-next h f = f ∙ sym (ap (λ (a : Bool). a && bookable (slots_in m.last mem) (rows_in m.orders mem) (load_in m) s) h)

-- ---- counts
abbrev counts : ℕ → ℕ → ℕ → Load → ℕ → ℕ → Counts
counts e o last load acked day =
    record { e = e; o = o; last = last; fills = load.fills; orders = load.orders; entries = load.entries; acked = acked; day = day }

abbrev kept : ℕ → ℕ → List Slot → List Row → Load → ℕ → ℕ → Kept
kept e o slots rows load acked day = record { e = e; o = o; slots = slots; rows = rows; load = load; acked = acked; day = day }

module _ (m : Counts) (mem : List ℕ) where
  pub last-is : length (kept_in m mem).slots ≡ m.last
  last-is = slots_length m.last mem

  pub counts-kept : counts_of (kept_in m mem) ≡ m
  counts-kept = ap (λ (n : ℕ). counts m.e m.o n (load_in m) m.acked m.day) last-is

  pub on-raises : (e o : ℕ) → counts e o m.last (load_in m) m.acked m.day ≡ counts_of (after (kept_in m mem) (Raises e o))
  unfolding after
  on-raises e o = ap (λ (n : ℕ). counts e o n (load_in m) m.acked m.day) (sym last-is)

  pub on-acks : (k day : ℕ) → day ≡ day_without m.day (between m.acked k (slots_in m.last mem))
      → counts m.e m.o m.last (load_in m) k day ≡ counts_of (after (kept_in m mem) (Acks k))
  unfolding after
  on-acks k day e = ap₂ (λ (n d : ℕ). counts m.e m.o n (load_in m) k d) (sym last-is) e

  pub on-clears : counts_of empty ≡ counts_of (after (kept_in m mem) Clears)
  unfolding after
  on-clears = refl

  pub on-books : (e o day : ℕ) (load : Load) (s : Slot) → load ≡ load_with (slots_in m.last mem) (rows_in m.orders mem) (load_in m) s → day ≡ day_with m.day s
      → counts e o (m.last + 1) load m.acked day ≡ counts_of (after (kept_in m mem) (Books e o s))
  unfolding after
  on-books e o day load s g d =
      let l : m.last + 1 ≡ length (slots_in m.last mem ++ (s ∷ [])) = omega (arith, last-is, length-append (slots_in m.last mem) (s ∷ [])) in
      ap₂ (λ (n : ℕ) (x : Load). counts e o n x m.acked day) l g
      ∙ ap (λ (x : ℕ). counts e o (length (slots_in m.last mem ++ (s ∷ []))) (load_with (slots_in m.last mem) (rows_in m.orders mem) (load_in m) s) m.acked x) d

  -- the steps of S and D go by the counts alone
  pub any-raises : (e o : ℕ) → step_note (bare m) (Raises e o) ≡ step_note (kept_in m mem) (Raises e o)
  unfolding step_note lawful after
  any-raises e o =
      ap (λ (n : ℕ). cond (lawful (bare m) (Raises e o)) (step.On (counts e o n (load_in m) m.acked m.day)) step.Bad) (slots_length m.last [] ∙ sym last-is)

  pub any-clears : step_note (bare m) Clears ≡ step_note (kept_in m mem) Clears
  unfolding step_note lawful after
  any-clears =
      ap (λ (n : ℕ). cond (eqb m.acked n) (step.On (counts_of empty)) step.Bad) (slots_length m.last [] ∙ sym last-is)

-- ---- the counts and the memory after a lawful note are what is kept after it
pub kept-after : (m : Counts) (mem : List ℕ) (note : Note) → length mem ≡ book_width → Slotted note → lawful (kept_in m mem) note ≡ true
    → kept_in (counts_of (after (kept_in m mem) note)) (mem_note mem (kept_in m mem) note) ≡ after (kept_in m mem) note
unfolding after mem_note
kept-after m mem (Raises e o) l w t = ap (λ (n : ℕ). kept e o (slots_in n mem) (rows_in m.orders mem) (load_in m) m.acked m.day) (last-is m mem)
kept-after m mem (Books e o s) l w t =
    let q = kept_in m mem in
    let ss = slots_in m.last mem in
    let rows = rows_in m.orders mem in
    let room = (bookable-facts ss rows (load_in m) s (lawful-books q e o s t).3).2 in
    let f : length ss ≡ m.last = last-is m mem in
    let n : length (ss ++ (s ∷ [])) ≡ m.last + 1 = omega (arith, length-append ss (s ∷ [])) in
    let row : ℕ = row_to ss rows s in
    let mem' : cond (lawful q (Books e o s)) (entered mem (length ss) m.orders row s) mem ≡ entered mem m.last m.orders row s =
    cond-true (lawful q (Books e o s)) (entered mem (length ss) m.orders row s) mem t ∙ ap (λ (k : ℕ). entered mem k m.orders row s) f in
    ap₂ (λ (x : List Slot) (y : List Row). kept e o x y (load_with ss rows (load_in m) s) m.acked (day_with m.day s))
    (ap₂ slots_in n mem' ∙ entered-slots mem l m.last (load_in m) s w.wide w.marked room)
    (ap (rows_in (load_with ss rows (load_in m) s).orders) mem' ∙ entered-rows mem l m.last (load_in m) s w.wide w.marked room)
kept-after m mem (Acks k) l w t =
    let ss = slots_in m.last mem in
    let rows = rows_in m.orders mem in
    let taken = between m.acked k ss in
    let left : List Row = rows_without ss rows taken in
    let mem' : cond (lawful (kept_in m mem) (Acks k)) (laid rows_here mem left) mem ≡ laid rows_here mem left = cond-true (lawful (kept_in m mem) (Acks k)) (laid rows_here mem left) mem t in
    ap₂ (λ (x : List Slot) (y : List Row). kept m.e m.o x y (load_in m) k (day_without m.day taken))
    (ap₂ slots_in (last-is m mem) mem' ∙ taken-slots m.last m.orders taken mem m.last l)
    (ap (rows_in m.orders) mem' ∙ taken-read m.last m.orders taken mem l)
kept-after m mem Clears l w t = ap₂ (λ (x : List Slot) (y : List Row). kept 1 1 x y no_load 0 0) (cells-none slot_width (region_of slots_here mem)) (cells-none row_width (region_of rows_here mem))

-- ---- what a step says of the whole restart
module _ (m : Counts) (mem s : List ℕ) (at : ℕ) where
  abbrev q : Kept
  q = kept_in m mem

  on-by : (next : Counts) (r : Reading) → length mem ≡ book_width → read_note s ≡ r → step.On next ≡ step_read q r
      → (go q at s ≡ go (kept_in next (mem_read mem q r)) (at + size_taken r) (drop (size_taken r) s)) × (size_taken r ≤ length s) × (0 < size_taken r)
  unfolding step_note
  on-by next Part l e t = absurd cc
  on-by next Unknown l e t = absurd cc
  on-by next (Whole note n) l e t =
      let w = read_is s note n e in
      ⊎_elim
      (λ h. (let k : next ≡ counts_of (after q note) = cc (cond-true (lawful q note) (step.On (counts_of (after q note))) step.Bad h) in (
        go_on q at s note n e h
            ∙ ap (λ (x : Kept). go x (at + n) (drop n s)) (sym (kept-after m mem note l w.slotted h) ∙ ap (λ (x : Counts). kept_in x (mem_note mem q note)) (sym k)),
        w.there,
        some-taken s note n e,
      )))
      (λ h. absurd (cc (cond-false (lawful q note) (step.On (counts_of (after q note))) step.Bad h)))
      (bool_case (lawful q note))

  pub on-goes : (next : Counts) → length mem ≡ book_width → step.On next ≡ step_read q (read_note s)
      → (go q at s ≡ go (kept_in next (mem_read mem q (read_note s))) (at + size_taken (read_note s)) (drop (size_taken (read_note s)) s)) × (size_taken (read_note s) ≤ length s) × (0 < size_taken (read_note s))
  on-goes next l t = on-by next (read_note s) l refl t

  end_by : (r : Reading) → read_note s ≡ r → step.End ≡ step_read q r → (go q at s ≡ Again q at) × (mem_read mem q r ≡ mem)
  unfolding step_note
  end_by Part e t = (go-part q at s e, refl)
  end_by Unknown e t = absurd cc
  end_by (Whole note n) e t =
      ⊎_elim
      (λ h. absurd (cc (cond-true (lawful q note) (step.On (counts_of (after q note))) step.Bad h)))
      (λ h. absurd (cc (cond-false (lawful q note) (step.On (counts_of (after q note))) step.Bad h)))
      (bool_case (lawful q note))

  pub end_goes : step.End ≡ step_read q (read_note s) → (go q at s ≡ Again q at) × (mem_read mem q (read_note s) ≡ mem)
  end_goes t = end_by (read_note s) refl t

  bad-by : (r : Reading) → read_note s ≡ r → step.Bad ≡ step_read q r → go q at s ≡ Unlawful at
  unfolding step_note
  bad-by Part e t = absurd cc
  bad-by Unknown e t = go-unknown q at s e
  bad-by (Whole note n) e t =
      ⊎_elim
      (λ h. absurd (cc (cond-true (lawful q note) (step.On (counts_of (after q note))) step.Bad h)))
      (λ h. go-bad q at s note n e h)
      (bool_case (lawful q note))

  pub bad-goes : step.Bad ≡ step_read q (read_note s) → go q at s ≡ Unlawful at
  bad-goes t = bad-by (read_note s) refl t

-- ---- the end of a replay
pub replay-ends : (o : Outcome) (m : Counts) (mem mem' : List ℕ) (at : ℕ) → o ≡ Again (kept_in m mem) at → mem' ≡ mem
    → (tells m at ≡ told o) × HasDay mem' o
replay-ends o m mem mem' at e f =
    let w : slots_in (length (slots_in m.last mem)) mem' ≡ slots_in m.last mem = ap₂ slots_in (last-is m mem) f in
    let v : rows_in (length (rows_in m.orders mem)) mem' ≡ rows_in m.orders mem = ap₂ rows_in (rows-length m.orders mem) f in
    (ap (λ (k : Counts). tells k at) (sym (counts-kept m mem)) ∙ sym (ap told e), subst (HasDay mem') (sym e) (w, v))

pub replay-bad : (o : Outcome) (mem' : List ℕ) (at : ℕ) → o ≡ Unlawful at → (Err at ≡ told o) × HasDay mem' o
replay-bad o mem' at e = (sym (ap told e), subst (HasDay mem') (sym e) tt)

pub start : (notes mem : List ℕ) (m : Counts) → m ≡ counts_of empty → restart notes ≡ go (kept_in m mem) 0 notes
start notes mem m e =
    restart-go notes
    ∙ ap₂ (λ (x : List Slot) (y : List Row). go (kept 1 1 x y no_load 0 0) 0 notes)
    (sym (cells-none slot_width (region_of slots_here mem))) (sym (cells-none row_width (region_of rows_here mem)))
    ∙ ap (λ (k : Counts). go (kept_in k mem) 0 notes) (sym e)

-- ---- a turn of the replay, at place `at` of the notes l, of which s is the rest, with o the answer
module _ (l s : List ℕ) (o : Outcome) (m : Counts) (mem mem' : List ℕ) (at : ℕ) where
  pub turn_on : {next : Counts} {n : ℕ} → s ≡ drop at l → o ≡ go (kept_in m mem) at (drop at l) → length mem ≡ book_width → at ≤ length l
      → step.On next ≡ step_read (kept_in m mem) (read_note s) → mem' ≡ mem_read mem (kept_in m mem) (read_note s) → n ≡ size_taken (read_note s)
      → (o ≡ go (kept_in next mem') (at + n) (drop (at + n) l)) × (at + n ≤ length l) × (0 < n)
  turn_on {next} {n} es eo el h t em en =
      let g = on-goes m mem s at next el t in
      let fits : n ≤ length s = rw (← en) at g.1 in
      let ls : length s ≡ length l - at = ap length es ∙ length-drop at l in (
        eo ∙ ap (go (kept_in m mem) at) (sym es) ∙ g.0
            ∙ ap₂ (λ (x : List ℕ) (k : ℕ). go (kept_in next x) (at + k) (drop k s)) (sym em) (sym en)
            ∙ ap (go (kept_in next mem') (at + n)) (ap (drop n) es ∙ drop-drop n at l),
        omega arith,
        rw (← en) at g.2,
      )

  pub turn_end : s ≡ drop at l → o ≡ go (kept_in m mem) at (drop at l) → step.End ≡ step_read (kept_in m mem) (read_note s) → mem' ≡ mem_read mem (kept_in m mem) (read_note s)
      → (tells m at ≡ told o) × HasDay mem' o
  turn_end es eo t em =
      let g = end_goes m mem s at t in
      replay-ends o m mem mem' at (eo ∙ ap (go (kept_in m mem) at) (sym es) ∙ g.0) (em ∙ g.1)

  pub turn-bad : s ≡ drop at l → o ≡ go (kept_in m mem) at (drop at l) → step.Bad ≡ step_read (kept_in m mem) (read_note s)
      → (Err at ≡ told o) × HasDay mem' o
  turn-bad es eo t = replay-bad o mem' at (eo ∙ ap (go (kept_in m mem) at) (sym es) ∙ bad-goes m mem s at t)

pub turns-done : (l : List ℕ) (o : Outcome) (m : Counts) (mem : List ℕ) (at : ℕ) → o ≡ go (kept_in m mem) at (drop at l) → length l ≤ at
    → (tells m at ≡ told o) × HasDay mem o
turns-done l o m mem at eo h =
    replay-ends o m mem mem at (eo ∙ ap (go (kept_in m mem) at) (drop-done l at h) ∙ go-end (kept_in m mem) at) refl

-- the memory keeps its length
pub mem-length : (mem : List ℕ) (q : Kept) (r : Reading) → length (mem_read mem q r) ≡ length mem
unfolding mem_note
mem-length mem q Part = refl
mem-length mem q Unknown = refl
mem-length mem q (Whole (Raises e o) n) = refl
mem-length mem q (Whole (Books e o s) n) =
    of-cond (λ (l : List ℕ). length l ≡ length mem) (lawful q (Books e o s))
    (λ t. entered-length mem (length q.slots) q.load.orders (row_to q.slots q.rows s) s) (λ t. refl)
mem-length mem q (Whole (Acks k) n) =
    of-cond (λ (l : List ℕ). length l ≡ length mem) (lawful q (Acks k))
    (λ t. splice-length mem rows_here.at (joined (rows_without q.slots q.rows (between q.acked k q.slots)))) (λ t. refl)
mem-length mem q (Whole Clears n) = refl

-- ---- the step of a note that is read
pub take_whole : {n : Note} {k : ℕ} {r : Step} {mem' : List ℕ} (q : Kept) (mem s : List ℕ) → read_note s ≡ Whole n k → r ≡ step_note q n → mem' ≡ mem_note mem q n
    → (r ≡ step_read q (read_note s)) × (mem' ≡ mem_read mem q (read_note s))
take_whole q mem s e er em = (er ∙ sym (ap (step_read q) e), em ∙ sym (ap (mem_read mem q) e))

pub take-books : {e o k : ℕ} {x y : Slot} {r : Step} {mem' : List ℕ} (q : Kept) (mem s : List ℕ) → x ≡ y → read_note s ≡ Whole (Books e o y) k → r ≡ step_note q (Books e o x)
    → mem' ≡ mem_note mem q (Books e o x) → (r ≡ step_read q (read_note s)) × (mem' ≡ mem_read mem q (read_note s))
take-books {e} {o} q mem s ex er es em =
    take_whole q mem s er (es ∙ ap (λ (z : Slot). step_note q (Books e o z)) ex) (em ∙ ap (λ (z : Slot). mem_note mem q (Books e o z)) ex)

pub mem-raises : (mem : List ℕ) (q : Kept) (e o : ℕ) → mem ≡ mem_note mem q (Raises e o)
unfolding mem_note
mem-raises mem q e o = refl

pub acks-no : (mem : List ℕ) (q : Kept) (n : ℕ) → false ≡ lawful q (Acks n) → (step.Bad ≡ step_note q (Acks n)) × (mem ≡ mem_note mem q (Acks n))
unfolding mem_note
acks-no mem q n t =
    (step-no q (Acks n) t, sym (cond-false (lawful q (Acks n)) (laid rows_here mem (rows_without q.slots q.rows (between q.acked n q.slots))) mem (sym t)))

pub mem-acks : (mem mem' : List ℕ) (q : Kept) (n : ℕ) → true ≡ lawful q (Acks n) → mem' ≡ laid rows_here mem (rows_without q.slots q.rows (between q.acked n q.slots))
    → mem' ≡ mem_note mem q (Acks n)
unfolding mem_note
mem-acks mem mem' q n t h = h ∙ sym (cond-true (lawful q (Acks n)) (laid rows_here mem (rows_without q.slots q.rows (between q.acked n q.slots))) mem (sym t))

pub mem-clears : (mem : List ℕ) (q : Kept) → mem ≡ mem_note mem q Clears
unfolding mem_note
mem-clears mem q = refl

pub books-no : (mem : List ℕ) (q : Kept) (e o : ℕ) (s : Slot) → false ≡ lawful q (Books e o s)
    → (step.Bad ≡ step_note q (Books e o s)) × (mem ≡ mem_note mem q (Books e o s))
unfolding mem_note
books-no mem q e o s t =
    (step-no q (Books e o s) t, sym (cond-false (lawful q (Books e o s)) (entered mem (length q.slots) q.load.orders (row_to q.slots q.rows s) s) mem (sym t)))

module _ (m : Counts) (mem : List ℕ) (e o : ℕ) (s : Slot) (t : true ≡ lawful (kept_in m mem) (Books e o s)) where
  abbrev ss : List Slot
  ss = slots_in m.last mem

  abbrev rows : List Row
  rows = rows_in m.orders mem

  pub mem-yes : (last orders row : ℕ) (mem' : List ℕ) → last ≡ m.last → orders ≡ m.orders → row ≡ (booking_of ss rows (load_in m) s).row → mem' ≡ entered mem last orders row s
      → mem' ≡ mem_note mem (kept_in m mem) (Books e o s)
  unfolding mem_note booking_of
  mem-yes last orders row mem' el eo er h =
      h
      ∙ ap₂ (λ (k n : ℕ). entered mem k n row s) (el ∙ sym (last-is m mem)) eo
      ∙ ap (λ (k : ℕ). entered mem (length ss) m.orders k s) er
      ∙ sym (cond-true (lawful (kept_in m mem) (Books e o s)) (entered mem (length ss) m.orders (row_to ss rows s) s) mem (sym t))

  room : has_room ss rows (load_in m) s ≡ true
  room = (bookable-facts ss rows (load_in m) s (lawful-books (kept_in m mem) e o s (sym t)).3).2

  -- the counts stay in their range
  pub last-few : m.last < most_slots
  last-few = omega (arith, last-is m mem, (has_room_lem ss rows (load_in m) s room).slot-left)

  pub load_fits : m.fills ≤ largest → m.orders ≤ largest → m.entries ≤ largest → (booking_of ss rows (load_in m) s).load ≡ load_with ss rows (load_in m) s
  load_fits hf ho he = booking-load ss rows (load_in m) s hf ho he room

-- ---- the used slots and rows of the replay are copied into the book
counts_in : Counts → Result Restarted ℕ → Counts
counts_in k (Ok again) = again.counts
counts_in k (Err at) = k

-- only they are written
pub book-is : (o : Outcome) (book mem : List ℕ) (k : Counts) (whole most : ℕ) → tells k whole ≡ told o → GivenIn most o → HasDay mem o
    → holding book (slots_in k.last mem) (rows_in k.orders mem) ≡ book_after book o
unfolding counts_in
book-is (Again q w) book mem k whole most e g h =
    let f : k ≡ counts_of q = ap (counts_in k) e in
    ap₂ (holding book)
    (ap (λ (x : Counts). slots_in x.last mem) f ∙ h.0)
    (ap (λ (x : Counts). rows_in x.orders mem) f ∙ ap (λ (n : ℕ). rows_in n mem) (sym (rows-many q g.sound)) ∙ h.1)
book-is (Unlawful at) book mem k whole most e g h = absurd cc

pub book-stays : (o : Outcome) (book : List ℕ) (at : ℕ) → Err at ≡ told o → book ≡ book_after book o
book-stays (Again q w) book at e = absurd cc
book-stays (Unlawful p) book at e = refl

-- and stand there then
slots-all-wide : (ss : List Slot) → AllSlots ss → Wide slot_width ss
slots-all-wide [] h = none-wide
slots-all-wide (s ∷ ss) h = more-wide h.0.wide (slots-all-wide ss h.1)

module _ (q : Kept) (h : Sound q) where
  pub kept-slots-wide : Wide slot_width q.slots
  kept-slots-wide = slots-all-wide q.slots h.each

  pub kept-rows-wide : Wide row_width q.rows
  kept-rows-wide = subst (Wide row_width) (sym h.rows_all) (rows-are-wide q.slots q.acked)

  rows_few : length q.rows ≤ most_orders
  rows_few = omega (arith, rows-many q h, h.orders-few)

  pub book-slots : (book : List ℕ) → length book ≡ book_width → slots_in (length q.slots) (holding book q.slots q.rows) ≡ q.slots
  book-slots book l = holding-slots book l q.slots q.rows kept-slots-wide kept-rows-wide h.few rows_few

  pub book-rows : (book : List ℕ) → length book ≡ book_width → rows_in (length q.rows) (holding book q.slots q.rows) ≡ q.rows
  book-rows book l = holding-rows book l q.slots q.rows kept-slots-wide kept-rows-wide h.few rows_few

pub slots-there : (o : Outcome) (book book' : List ℕ) (most : ℕ) → GivenIn most o → book' ≡ book_after book o → length book ≡ book_width → HasDay book' o
slots-there (Again q w) book book' most g e l =
    (ap (slots_in (length q.slots)) e ∙ book-slots q g.sound book l, ap (rows_in (length q.rows)) e ∙ book-rows q g.sound book l)
slots-there (Unlawful at) book book' most g e l = tt

pub slots-none : (o : Outcome) (mem : List ℕ) (at : ℕ) → Err at ≡ told o → HasDay mem o
slots-none (Again q w) mem at e = absurd cc
slots-none (Unlawful p) mem at e = tt
