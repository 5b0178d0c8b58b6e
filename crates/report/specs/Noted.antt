-- "F has .. a report that would be booked": which fills a note may have. A restart judges a fill by the bounds of its own values (`fill_lawful`), since 39, 150 and 151 stand in no
-- note; these are the fills that some good report tells of, by the rules of now and by document 01's alike. So request C-12 left the restart the function that it was.
use Rattle.std.specs.Prelude.{ℕ, ◌≡◌, ◌↔◌, List, true, length}
use Rattle.std.proofs.Math.Option.{Option, none}
use Rattle.octet.specs.Bytes.{all_in}
use Rattle.field.specs.Pieces.{pieces_of, first_of}
use Rattle.answer.specs.declared.Setup.{Setup}
use Rattle.answer.specs.declared.Phase.{Phase}
use Rattle.answer.specs.declared.Fault.{Fault}
use Rattle.answer.specs.declared.Kind.TheVariants as kind
use Rattle.table.specs.Rows.{kind_in}
use Rattle.table.specs.Steps.{fault_in}
use Rattle.fill.specs.Slot.{Slot, slot_width, is_fill, fill_lawful}
use Rattle.report.specs.Report.{Report, rule_fault, report_in, slot_in}
use Rattle.report.specs.Crossed.{former_fault}

-- the body of a faultless report on a single order that keeps such rules, and whose fill this is
pub record Tells (rules : Report → Option Fault) (setup : Setup) (phase : Phase) (o : ℕ) (s : Slot) : Type 0 where
  pub body : List ℕ
  pub type : kind_in setup (pieces_of body) ≡ kind.Report
  pub faultless : fault_in setup phase o (pieces_of body) ≡ none
  pub kept : rules (report_in (pieces_of body)) ≡ none
  pub alone : first_of 442 (pieces_of body) ≡ none
  pub fill : slot_in (pieces_of body) ≡ s

-- the bytes of a fill, as a note of kind F has them
pub record IsFill (s : Slot) : Type 0 where
  pub wide : length s ≡ slot_width
  pub marked : is_fill s ≡ true
  pub bytes : all_in 0 255 s ≡ true

pub record Noted (setup : Setup) (phase : Phase) (o : ℕ) (s : Slot) : Type 0 where
  pub now : (fill_lawful s ≡ true) ↔ Tells rule_fault setup phase o s
  pub before : (fill_lawful s ≡ true) ↔ Tells former_fault setup phase o s
