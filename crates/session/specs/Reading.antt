-- What the steps read off a message, by a look at its body: steps 1 and 2, what steps 5 to 7 find, and the values that the effects need.
use Rattle.std.specs.Prelude.{ℕ, List, Bool, cond, Result, Some, None, Option as Optional}
use Rattle.std.proofs.Math.Option.{Option, none, some}
use Rattle.octet.specs.Bytes.{bytes_of}
use Rattle.octet.specs.Maybe as maybe
use Rattle.value.specs.Readers.{number_read, number_reason, number_values}
use Rattle.value.specs.declared.Flaw.{Flaw}
use Rattle.field.specs.Pieces.{Pieces, Scan, is_that, scan_of}
use Rattle.field.specs.Look.{Look, look_of, first}
use Rattle.table.specs.Rows.{kind_by}
use Rattle.table.specs.Steps.{number_of, given_of, first_fault, found}
use Rattle.answer.specs.Setup.{ours, theirs}
use Rattle.answer.specs.Numbers.{fault, wrong_id, last_sequence}
use Rattle.answer.specs.declared.Setup.{Setup}
use Rattle.answer.specs.declared.Kind.{Kind}
use Rattle.answer.specs.declared.Fault.{Fault}
use Rattle.session.specs.declared.Session.{Session}
use Rattle.session.specs.declared.Findings.{Findings}

pub record Facts : Type 0 where
  -- its type, and its number where it has one (step 1)
  pub kind : Kind
  pub seq : Option ℕ
  -- which ID is not the agreed one (step 2), and what is wrong by steps 5 to 7
  pub ids : Option Fault
  pub fault : Option Fault
  -- `43=Y`, `123=Y`
  pub again : Bool
  pub filling : Bool
  -- the numbers of 7, 16 and 36
  pub from : ℕ
  pub up_to : ℕ
  pub to : ℕ

-- step 1: "The first `34=` field is 1 to 999,999,998, 1 to 9 digits"
abbrev pub number_if : Result ℕ Flaw → Option ℕ
number_if r = cond (maybe.is_none (number_reason r)) (maybe.first (number_values r)) none

abbrev pub seq_given : Option (List ℕ) → Option ℕ
seq_given none = none
seq_given (some v) = number_if (number_read 1 last_sequence v)

-- step 2: "The first `49=` and then `56=` are the agreed IDs"
abbrev pub ids_given : Setup → Option (List ℕ) → Option (List ℕ) → Option Fault
ids_given setup sender target =
    cond (is_that (theirs setup) sender) (cond (is_that (ours setup) target) none (some (fault wrong_id 56))) (some (fault wrong_id 49))

abbrev pub yes : Option (List ℕ) → Bool
yes v = is_that (bytes_of "Y") v

-- all of them, by the scan of its pieces and a look at its body
unfoldable pub facts_of : Setup → Session → Scan → Look → Facts
facts_of setup s scan look = record {
  kind = kind_by setup look;
  seq = seq_given (first look 34);
  ids = ids_given setup (first look 49) (first look 56);
  fault = first_fault setup (given_of s.phase s.o) scan (kind_by setup look) look;
  again = yes (first look 43);
  filling = yes (first look 123);
  from = number_of look 7;
  up_to = number_of look 16;
  to = number_of look 36;
}

-- on the pieces of its body
unfoldable pub facts_in : Setup → Session → Pieces → Facts
facts_in setup s ps = facts_of setup s (scan_of ps) (look_of ps)

-- ---- what was read, as the code hands it on

-- a number, where there is one
abbrev pub numbered : Optional ℕ → Option ℕ
numbered (Some n) = some n
numbered None = none

abbrev pub facts : Findings → Facts
facts m = record {
  kind = m.kind;
  seq = numbered m.seq;
  ids = found m.ids;
  fault = found m.fault;
  again = m.again;
  filling = m.filling;
  from = m.from;
  up_to = m.last;
  to = m.to;
}
