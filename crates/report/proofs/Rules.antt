-- What the reading of a report and its rules put together.
--     rules_told     what the rules say of the values that were read
--     slot_read, entry_read     the slot of a fill and of an entry, from the values read: of a code one byte
--     slot-after     a lent slot after a report, by what it said
use mathlib.Core.Path.{◌≡◌, sym, ap, ◌∙◌}
use mathlib.Core.List.{List, [], ◌∷◌}
use mathlib.Core.Option.{Option}
use Prim.Native.Nat.{ℕ, ◌%◌}
use native.Mathlib.Nat.{pow-zero}
use native.Mathlib.Omega.{arith}
use Rattle.octet.specs.Places.{number_bytes, high}
use Rattle.value.specs.Value.{price_in}
use Rattle.field.specs.Look.{Look}
use Rattle.table.specs.Steps.{number_of}
use Rattle.parts.specs.Parts.{laid}
use Rattle.fill.specs.Slot.{Slot, fill_of, body_of, slot_of}
use Rattle.fill.specs.Entry.{entry_of, entry_body, entry_slot}
use Rattle.answer.specs.declared.Fault.{Fault}
use Rattle.report.specs.declared.Sums.{Sums}
use Rattle.report.specs.Report.{Said, report_with, sums_of, report_of, rule_fault, reported_of, slot_for, slot_on, slot_after}
use Rattle.report.specs.Correction.{entry_for}

-- what the rules say of the values that were read
pub rules_told : (look : Look) {sums : Sums} {kind status : List ℕ} {r : Option Fault} → sums ≡ sums_of look → kind ≡ look.text 150 → status ≡ look.text 39
    → r ≡ rule_fault (report_with sums kind status) → rule_fault (report_of look) ≡ r
unfolding report_of
rules_told look es ek et e = rw (← es, ← ek, ← et) (sym e)

-- a number in one byte
pub one_place : (n : ℕ) → high 1 (n % 256) ≡ high 1 n
unfolding number_bytes
one_place n = rw pow-zero (ap (λ (k : ℕ). k ∷ []) (omega arith))

pub slot_read : (look : Look) {r exec order symbol time : List ℕ} {side price quantity shares cum : ℕ}
    → r ≡ slot_of (body_of (fill_of exec order symbol side quantity shares price cum time))
    → exec ≡ look.text 17 → order ≡ look.text 37 → symbol ≡ look.text 55 → side ≡ number_of look 54 % 256 → quantity ≡ number_of look 38
    → shares ≡ number_of look 32 → price ≡ price_in (look.text 31) → cum ≡ number_of look 14 → time ≡ look.text 60 → r ≡ slot_for look
unfolding slot_for body_of laid
slot_read look er ee eo ey ed eq es ep ec et = er ∙ rw (ee, eo, ey, ed, eq, es, ep, ec, et, one_place (number_of look 54))

pub entry_read : (look : Look) {r trade exec time : List ℕ} {number side transaction correction shares price : ℕ}
    → r ≡ entry_slot (entry_of trade number side transaction correction exec shares price time)
    → trade ≡ look.text 1003 → number ≡ number_of look 9021 → side ≡ number_of look 54 % 256 → transaction ≡ number_of look 20 % 256
    → correction ≡ number_of look 9020 % 256 → exec ≡ look.text 17 → shares ≡ number_of look 32 → price ≡ price_in (look.text 31) → time ≡ look.text 60
    → r ≡ entry_for look
unfolding entry_for entry_body laid
entry_read look er et en ed ex ec ee es ep em =
    er ∙ rw (et, en, ed, ex, ec, ee, es, ep, em, one_place (number_of look 54), one_place (number_of look 20), one_place (number_of look 9020))

pub slot-after : (look : Look) (before : Slot) {r : Said} → r ≡ reported_of look → slot_on look before r ≡ slot_after look before
unfolding slot_after
slot-after look before e = ap (slot_on look before) e
