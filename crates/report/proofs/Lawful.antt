-- The slot of a report that passed the table: it has its width and says fill, it reads back field by field, and where the rules are kept it is lawful.
--     slot-long, slot-marked     of any pieces
--     report-back     what a faultless report says is read back from its slot
--     report-lawful     a faultless report that keeps the four rules has a lawful slot
use mathlib.Core.Path.{◌≡◌, refl, ap, ◌∙◌}
use mathlib.Core.Logic.{⊎_elim}
use mathlib.Core.Option.{none}
use mathlib.Core.Bool.{true}
use Prim.Native.Nat.{ℕ}
use native.Mathlib.Omega.{arith}
use lib.ListN.{length}
use Rattle.octet.specs.Bytes.{between}
use Rattle.octet.specs.Padded.{text_of}
use Rattle.octet.proofs.Lists.{between-high}
use Rattle.value.proofs.Prices.{price-small}
use Rattle.value.proofs.Times.{time-is}
use Rattle.field.specs.Pieces.{Pieces, text_at}
use Rattle.field.specs.Look.{look_of}
use Rattle.answer.specs.declared.Setup.{Setup}
use Rattle.answer.specs.declared.Phase.{Phase}
use Rattle.answer.specs.declared.Kind.TheVariants as kind
use Rattle.table.specs.Rows.{kind_in}
use Rattle.table.specs.Steps.{number_at, fault_in}
use Rattle.table.proofs.Faultless.{OneByte}
use Rattle.table.proofs.Messages.{ReportValues, report-values, side-number}
use Rattle.fill.specs.Slot.{Slot, Fill, slot_width, body_of, slot_of, is_fill, exec_of, order_of, symbol_of, side_of, quantity_of, shares_of, price_of, cum_of, time_of}
use Rattle.fill.specs.Booked.{slot_lawful}
use Rattle.fill.proofs.Fields.{Sound, slot-length, slot-lawful, exec-back, order-back, symbol-back, side-back, quantity-back, shares-back, price-back, cum-back, time-back}
use Rattle.report.specs.Report.{fill_of, report_of, report_in, rule_fault, slot_for, slot_in}
use Rattle.report.specs.Carried.{Carries}
use Rattle.report.proofs.Kept.{Kept, kept}

-- what a report says of a fill
abbrev pub fill_in : Pieces → Fill
fill_in ps = fill_of (look_of ps)

slot-made : (ps : Pieces) → slot_in ps ≡ slot_of (body_of (fill_in ps))
unfolding slot_for
slot-made ps = refl

-- ---- of any pieces
pub slot-long : (ps : Pieces) → length (slot_in ps) ≡ slot_width
slot-long ps = ap length (slot-made ps) ∙ slot-length (fill_in ps)

pub slot-marked : (ps : Pieces) → is_fill (slot_in ps) ≡ true
slot-marked ps = ap is_fill (slot-made ps)

-- ---- of a report that passed the table

-- a slot as the book keeps it
pub record Lawful (s : Slot) : Type 0 where
  pub lawful : slot_lawful s ≡ true
  pub long : length s ≡ slot_width
  pub marked : is_fill s ≡ true

-- 54 as a number
pub side-one : (ps : Pieces) → OneByte 49 50 (text_at 54 ps) → between 1 2 (number_at 54 ps) ≡ true
side-one ps b = ⊎_elim (λ e. ap (between 1 2) e) (λ e. ap (between 1 2) e) (side-number (text_at 54 ps) b)

module _ (ps : Pieces) (v : ReportValues ps) where
  pub values-back : Carries ps (slot_in ps)
  values-back =
      let f = fill_in ps in
      let made = slot-made ps in
      let sides = between-high 1 2 (number_at 54 ps) (side-one ps v.side) in
      let quantities = v.quantity.most in
      let sharing = v.shares.most in
      let cums = v.cum.most in
      let prices = price-small (text_at 31 ps) in
      record {
        exec = ap (λ (s : Slot). text_of (exec_of s)) made ∙ exec-back f v.exec.to;
        order = ap (λ (s : Slot). text_of (order_of s)) made ∙ order-back f v.order.to;
        symbol = ap (λ (s : Slot). text_of (symbol_of s)) made ∙ symbol-back f v.symbol.to;
        side = ap side_of made ∙ side-back f (omega arith);
        quantity = ap quantity_of made ∙ quantity-back f (omega arith);
        shares = ap shares_of made ∙ shares-back f (omega arith);
        price = ap price_of made ∙ price-back f (omega arith);
        cum = ap cum_of made ∙ cum-back f (omega arith);
        time = ap time_of made ∙ time-back f (time-is (text_at 60 ps) v.time).lengths;
      }

  pub values-lawful : Kept (report_in ps) → Lawful (slot_in ps)
  unfolding report_of
  values-lawful k =
      let sound : Sound (fill_in ps) = record {
        exec-some = v.exec.from;
        exec-short = v.exec.to;
        exec-graph = v.exec.bytes;
        order-some = v.order.from;
        order-short = v.order.to;
        order-graph = v.order.bytes;
        symbol-some = v.symbol.from;
        symbol-short = v.symbol.to;
        symbol-graph = v.symbol.bytes;
        side-one = side-one ps v.side;
        shares-some = v.shares.least;
        shares-cum = k.shares-cum;
        cum-quantity = k.cum-quantity;
        quantity-most = v.quantity.most;
        price-most = price-small (text_at 31 ps);
        time-time = v.time;
      } in
      record { lawful = ap slot_lawful (slot-made ps) ∙ slot-lawful (fill_in ps) sound; long = slot-long ps; marked = slot-marked ps }

module _ (setup : Setup) (phase : Phase) (o : ℕ) (ps : Pieces) (fine : fault_in setup phase o ps ≡ none) (e : kind_in setup ps ≡ kind.Report) where
  pub report-back : Carries ps (slot_in ps)
  report-back = values-back ps (report-values setup phase o ps fine e)

  pub report-lawful : rule_fault (report_in ps) ≡ none → Lawful (slot_in ps)
  report-lawful h = values-lawful ps (report-values setup phase o ps fine e) (kept (report_in ps) h)
