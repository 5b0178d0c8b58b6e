-- "Steps 1 to 3 leave E except where said."
use Rattle.std.specs.Prelude.{ℕ, ◌≡◌, Bool, true, false, cond, ◌&&◌, not, leb, eqb}
use Rattle.std.proofs.Math.Option.{Option, none, some}
use Rattle.octet.specs.Maybe.{is_none}
use Rattle.field.specs.Pieces.{Pieces}
use Rattle.answer.specs.Numbers.{counted, inside, phase_number, is_kind}
use Rattle.answer.specs.declared.Setup.{Setup}
use Rattle.answer.specs.declared.Fault.{Fault}
use Rattle.answer.specs.declared.Phase.{Phase}
use Rattle.answer.specs.declared.Kind.TheVariants as kind
use Rattle.session.specs.Reading.{Facts, facts_in}
use Rattle.session.specs.Judging.{judge}
use Rattle.session.specs.declared.Session.{Session}
use Rattle.session.specs.declared.Judged.{Judged}
use Rattle.session.specs.declared.Verdict.TheVariants.{Settled}

-- a message that does not come to step 4: its number is not good, an ID is not the agreed one, or the phase is not 2 or 4
abbrev pub before4 : Option ℕ → Option Fault → Phase → Bool
before4 none ids p = true
before4 (some n) (some f) p = true
before4 (some n) none p = not (inside p)

-- "where said": "In phase 1: type A numbered E or more .. Numbered E: E rises by 1", where it is faultless
abbrev pub raises : Session → Facts → Option ℕ → Option Fault → Phase → Bool
raises s m none ids p = false
raises s m (some n) (some f) p = false
raises s m (some n) none p = eqb (phase_number p) 1 && (is_kind m.kind kind.Logon && leb s.e n && is_none m.fault && eqb n s.e)

-- such a message is settled there, and leaves E except where said
pub record LeavesE (setup : Setup) (s : Session) (ps : Pieces) : Type 0 where
  pub judged : Judged
  pub settled : judge setup s ps ≡ Settled judged
  pub expected : let m = facts_in setup s ps in judged.next.e ≡ cond (raises s m m.seq m.ids s.phase) (counted s.e 1) s.e

abbrev pub Steps1to3 : Type 0
Steps1to3 =
    (setup : Setup) (s : Session) (ps : Pieces) → (let m = facts_in setup s ps in before4 m.seq m.ids s.phase ≡ true) → LeavesE setup s ps
