-- THE FIRST DEMAND: "Call refusals. Nothing changes, lent buffers included. Checked in this order". The table, row by row, of any call; and row 9, of setting up.
use Rattle.std.specs.Prelude.{ℕ, ◌≡◌, ◌↔◌, List, [], ◌∷◌, ◌++◌, Bool, true, false, ◌&&◌, ◌||◌, not, length, ltb, eqb, Result, Ok, Err}
use Rattle.std.proofs.Math.Option.{Option, none, some}
use Rattle.octet.specs.Bytes.{between, all_in}
use Rattle.octet.specs.Maybe.{or_else}
use Rattle.value.specs.Value.{is_time, among}
use Rattle.frame.specs.Finding.{found_in, body_in}
use Rattle.frame.specs.declared.Found.{Found}
use Rattle.frame.specs.declared.Found.TheVariants as found
use Rattle.field.specs.Pieces.{Pieces, pieces_of}
use Rattle.answer.specs.Numbers.{phase_number}
use Rattle.answer.specs.declared.Setup.{Setup}
use Rattle.answer.specs.declared.Refusal.{Refusal}
use Rattle.answer.specs.declared.Refusal.TheVariants as refusal
use Rattle.fill.specs.Slot.{Slot}
use Rattle.book.specs.Place.{is_new}
use Rattle.book.specs.Admitting.{place, has_room}
use Rattle.note.specs.Kept.{waiting}
use Rattle.restart.specs.Restart.{Unlawful, restart, told, refused_by}
use Rattle.tally.specs.declared.Tally.{Tally}
use Rattle.receiver.specs.State.{State, Did, seen, stored, reply_after, note_after, line_after, book_after}
use Rattle.receiver.specs.Calls.{Brings, Nothing, This, brings_of}
use Rattle.receiver.specs.Receiver.{What, Message, Restart, Lent, refuse, call, setting_up}
use Rattle.receiver.specs.declared.State.{State as Stored}
use Rattle.promise.specs.Sort.{where_given, Buffers, sort_of, refused_with}
use Rattle.promise.specs.World.{is_refused}
use Rattle.promise.specs.Demand2.{Bringing}

-- ---- the column "When", of each call; a row that is none of the call's does not hold

-- "1: reply buffer under 512, note buffer under 102, or line buffer under 128 bytes": of the buffers that the call is lent
abbrev pub short_of : Lent → Buffers → Bool
short_of b lent = lent.reply && ltb b.reply 512 || lent.note && ltb b.note 102 || lent.line && ltb b.line 128

abbrev pub too_short : Lent → What → Bool
too_short b w = short_of b (sort_of w).lent

-- "2: the given time is not a 21-byte UTC time"
abbrev pub no_time : List ℕ → Bool
no_time time = not (eqb (length time) 21 && is_time time)

abbrev pub mistimed : What → Bool
mistimed w = where_given false no_time (sort_of w).time

-- "3: wrong phase; a message needs 1, 2 or 4"
abbrev pub wrong_phase : State → What → Bool
wrong_phase st w = not (among (sort_of w).phases (phase_number st.phase))

-- "4: a call that can write messages, O above 999,999,997"
abbrev pub numbers_used : State → What → Bool
numbers_used st w = (sort_of w).lent.reply && ltb 999999997 st.kept.o

-- "5: no room": a framed message in its turn that brings a fill or an entry, which would be booked but for room
abbrev pub unplaced : State → Slot → Bool
unplaced st s = is_new (place st.kept.slots st.kept.rows s) && not (has_room st.kept.slots st.kept.rows st.kept.load s)

abbrev pub crowded_by : State → Brings → Bool
crowded_by st (Nothing j) = false
crowded_by st (This n s) = unplaced st s

abbrev pub crowded : Setup → State → Pieces → Bool
crowded setup st ps = crowded_by st (brings_of setup st ps)

abbrev pub crowded_in : Setup → State → List ℕ → Found → Bool
crowded_in setup st s found.More = false
crowded_in setup st s (found.Garbled skip) = false
crowded_in setup st s (found.Framed len) = crowded setup st (pieces_of (body_in len s))

abbrev pub no_room : Setup → State → What → Bool
no_room setup st w = where_given false (λ (s : List ℕ). crowded_in setup st s (found_in s)) (sort_of w).message

-- "6: acknowledge above the offered mark"
abbrev pub not_offered : State → What → Bool
not_offered st w = where_given false (ltb st.offered) (sort_of w).acks

-- "7: new day with fills waiting", or entries
abbrev pub still_waiting : State → What → Bool
still_waiting st w = (sort_of w).clears && ltb 0 (length (waiting st.kept))

-- "8: unlawful note, with its first byte's place, from 0"
abbrev pub unlawful_note : What → Option Refusal
unlawful_note w = where_given none (λ (notes : List ℕ). refused_by (told (restart notes))) (sort_of w).notes

-- ---- the table: of each row the refusal, where it holds. 9 is of setting up, before there is a state: see below

abbrev pub above5 : State → Lent → What → List (Option Refusal)
above5 st b w =
    refuse refusal.ShortBuffer (too_short b w)
    ∷ refuse refusal.BadTime (mistimed w)
    ∷ refuse refusal.WrongPhase (wrong_phase st w)
    ∷ refuse refusal.NumbersUsed (numbers_used st w)
    ∷ []

abbrev pub table : Setup → State → Lent → What → List (Option Refusal)
table setup st b w =
    above5 st b w
    ++ refuse refusal.NoRoom (no_room setup st w)
    ∷ refuse refusal.NotOffered (not_offered st w)
    ∷ refuse refusal.StillWaiting (still_waiting st w)
    ∷ unlawful_note w
    ∷ []

-- the first that holds
abbrev pub first_there : List (Option Refusal) → Option Refusal
first_there [] = none
first_there (r ∷ rs) = or_else r (first_there rs)

-- ---- "Nothing changes, lent buffers included"

pub record Untouched (st : State) (d : Did) : Type 0 where
  pub next : d.next ≡ st
  pub reply : d.reply ≡ []
  pub note : d.note ≡ none
  pub line : d.line ≡ []

-- in the struct and in the bytes that are lent
pub record Unchanged (s : Stored) (book reply note line : List ℕ) (d : Did) : Type 0 where
  pub struct : stored d.next ≡ s
  pub in-book : book_after book d ≡ book
  pub in-reply : reply_after reply d ≡ reply
  pub in-note : note_after note d ≡ note
  pub in-line : line_after line d ≡ line

pub record Demand1 (setup : Setup) (st : State) (b : Lent) (t : Tally) (w : What) : Type 0 where
  -- the refusal given is the first of the table that holds, and none is given where none holds
  pub first : refused_with (call setup st b t w).did.answer ≡ first_there (table setup st b w)
  -- a refused call leaves the state, writes nothing, and leaves the tally
  pub leaves : is_refused (call setup st b t w).did.answer ≡ true → Untouched st (call setup st b t w).did × ((call setup st b t w).tally ≡ t)
  -- the struct and every lent byte too
  pub unchanged : (s : Stored) (book reply note line : List ℕ) → st ≡ seen s book → is_refused (call setup st b t w).did.answer ≡ true
      → Unchanged s book reply note line (call setup st b t w).did
  -- "no room" is given exactly for a framed report or correction in its turn that would be booked but for room, where no row above it holds
  pub room : (time s : List ℕ) → w ≡ Message time s → (refused_with (call setup st b t w).did.answer ≡ some refusal.NoRoom)
      ↔ ((first_there (above5 st b w) ≡ none) × ((len : ℕ) × (f : Slot) × Bringing setup st s len f × (has_room st.kept.slots st.kept.rows st.kept.load f ≡ false)))
  -- "unlawful note" exactly where `restart` finds one, with the place that it finds
  pub note : (notes : List ℕ) (at : ℕ) → w ≡ Restart notes → (refused_with (call setup st b t w).did.answer ≡ some (refusal.Unlawful at)) ↔ (restart notes ≡ Unlawful at)

-- ---- setting up

-- "9: an agreed ID not 1 to 16 bytes of 33 to 126"
abbrev pub bad_id : List ℕ → Bool
bad_id id = not (between 1 16 (length id) && all_in 33 126 id)

-- why a set-up is refused, where it is
abbrev pub refused_for : Result Setup Refusal → Option Refusal
refused_for (Ok setup) = none
refused_for (Err why) = some why

-- it is refused exactly where one of the two is such an ID
abbrev pub SetUpRefused : List ℕ → List ℕ → Type 0
SetUpRefused ours theirs = refused_for (setting_up ours theirs) ≡ refuse refusal.BadId (bad_id ours || bad_id theirs)
