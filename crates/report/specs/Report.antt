-- "Execution reports": the values of a report that passed the table, by a look at its body, and the four rules.
use Rattle.std.specs.Prelude.{ℕ, ◌-◌, List, Bool, cond, ◌&&◌, ◌||◌, not, eqb, Result, Ok, Err}
use Rattle.std.proofs.Math.Option.{Option, none, some}
use Rattle.std.specs.Bool.{beq}
use Rattle.octet.specs.Bytes.{between, same, is}
use Rattle.octet.specs.Maybe.{or_else}
use Rattle.value.specs.Value.{price_in}
use Rattle.field.specs.Pieces.{Pieces}
use Rattle.field.specs.Look.{Look, look_of}
use Rattle.table.specs.Steps.{number_of}
use Rattle.answer.specs.Numbers.{fault, wrong_value}
use Rattle.answer.specs.declared.Fault.{Fault}
use Rattle.fill.specs.Slot.{Slot, Fill, body_of, slot_of}
use Rattle.report.specs.declared.Reported.{Reported}
use Rattle.report.specs.declared.Reported.TheVariants.{Aside}
use Rattle.report.specs.declared.Reported.TheVariants as reported
use Rattle.report.specs.declared.Sums.{Sums}

-- ---- "Then, each Reject 5 with the tag: .."; and request C-12, of a fill that crossed a cancel

-- the values that the rules need: 38, 32, 14 and 151; 150 and 39
pub record Report : Type 0 where
  pub sums : Sums
  pub exec_type : List ℕ
  pub status : List ℕ

abbrev pub report_with : Sums → List ℕ → List ℕ → Report
report_with sums exec_type status = record { sums = sums; exec_type = exec_type; status = status }

-- "39=4 is taken with 150=1": the fill crossed a cancel of its order
abbrev pub is_crossed : List ℕ → List ℕ → Bool
is_crossed exec_type status = is "4" status && is "1" exec_type

-- "14 between 32's and 38's"
abbrev pub cum_ok : Sums → Bool
cum_ok n = between n.shares n.quantity n.cum

-- "151 = 38 − 14"; where it crossed, "then 151 must be 0", "in the place of the old 151 rule"
abbrev pub leaves_ok : Bool → Sums → Bool
leaves_ok crossed n = eqb n.leaves (cond crossed 0 (n.quantity - n.cum))

-- "150 is 2 exactly when 151 is 0"; where it crossed, "the rule tying 150 to 151 is not applied"
abbrev pub tied : Bool → Sums → List ℕ → Bool
tied crossed n exec_type = crossed || beq (is "2" exec_type) (eqb n.leaves 0)

-- "39 equals 150"; where it crossed, "39=4 is taken"
abbrev pub status_ok : Bool → List ℕ → List ℕ → Bool
status_ok crossed exec_type status = crossed || same status exec_type

abbrev pub unless_kept : ℕ → Bool → Option Fault
unless_kept tag kept = cond kept none (some (fault wrong_value tag))

-- the first that is not kept, in this order
abbrev pub fault_by : Bool → Report → Option Fault
fault_by crossed r =
    or_else (unless_kept 14 (cum_ok r.sums))
    (or_else (unless_kept 151 (leaves_ok crossed r.sums))
    (or_else (unless_kept 150 (tied crossed r.sums r.exec_type)) (unless_kept 39 (status_ok crossed r.exec_type r.status))))

unfoldable pub rule_fault : Report → Option Fault
rule_fault r = fault_by (is_crossed r.exec_type r.status) r

-- ---- by a look at the body

abbrev pub sums_of : Look → Sums
sums_of look = record { quantity = number_of look 38; shares = number_of look 32; cum = number_of look 14; leaves = number_of look 151 }

unfoldable pub report_of : Look → Report
report_of look = report_with (sums_of look) (look.text 150) (look.text 39)

-- "A report with 442 is set aside: heard, not booked", after the rules
abbrev pub is_aside : Look → Bool
is_aside look = not (eqb (look.count 442) 0)

-- what a report says: the rule that it breaks, or else that it is set aside or tells of a fill
abbrev pub Said : Type 0
Said = Result Reported Fault

abbrev pub after_rules : Bool → Option Fault → Said
after_rules aside (some f) = Err f
after_rules aside none = Ok (cond aside Aside reported.Fill)

unfoldable pub reported_of : Look → Said
reported_of look = after_rules (is_aside look) (rule_fault (report_of look))

-- the fill that a report tells of, and its slot
abbrev pub fill_of : Look → Fill
fill_of look = record {
  exec = look.text 17;
  order = look.text 37;
  symbol = look.text 55;
  side = number_of look 54;
  quantity = number_of look 38;
  shares = number_of look 32;
  price = price_in (look.text 31);
  cum = number_of look 14;
  time = look.text 60;
}

unfoldable pub slot_for : Look → Slot
slot_for look = slot_of (body_of (fill_of look))

-- a lent slot after a report: its fill's, where it tells of one, and else as it was
abbrev pub slot_on : Look → Slot → Said → Slot
slot_on look before (Err f) = before
slot_on look before (Ok Aside) = before
slot_on look before (Ok reported.Fill) = slot_for look

unfoldable pub slot_after : Look → Slot → Slot
slot_after look before = slot_on look before (reported_of look)

-- ---- on the pieces of a body

abbrev pub report_in : Pieces → Report
report_in ps = report_of (look_of ps)

abbrev pub reported_in : Pieces → Said
reported_in ps = reported_of (look_of ps)

abbrev pub slot_in : Pieces → Slot
slot_in ps = slot_for (look_of ps)
