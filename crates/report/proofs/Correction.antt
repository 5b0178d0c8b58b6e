-- The slot of a Trade Cancel/Correct that passed the table: it has its width and says entry, it reads back field by field, and it is lawful.
--     entry-long, entry-marked, entry-ends     of any pieces
--     correction-sound     what a faultless correction says is what an entry can say
--     correction-kept     and is read back from its slot
--     correction-lawful, correction-booked     and the slot is lawful, as an entry and as any slot
use mathlib.Core.Path.{◌≡◌, refl, ap, ◌∙◌}
use mathlib.Core.Option.{none}
use mathlib.Core.Bool.{true}
use Prim.Native.Nat.{ℕ, ◌-◌}
use native.Mathlib.Omega.{arith}
use lib.ListN.{length, get_or}
use Rattle.octet.specs.Padded.{text_of}
use Rattle.octet.proofs.Lists.{between-high}
use Rattle.value.proofs.Prices.{price-small}
use Rattle.value.proofs.Texts.{one_of}
use Rattle.value.proofs.Times.{time-is}
use Rattle.field.specs.Pieces.{Pieces, text_at}
use Rattle.field.specs.Look.{look_of}
use Rattle.answer.specs.declared.Setup.{Setup}
use Rattle.answer.specs.declared.Phase.{Phase}
use Rattle.answer.specs.declared.Kind.TheVariants as kind
use Rattle.table.specs.Rows.{kind_in}
use Rattle.table.specs.Steps.{number_at, fault_in}
use Rattle.table.proofs.Meets.{CorrectionFields}
use Rattle.table.proofs.Messages.{correction-values, transaction-number, correction-number}
use Rattle.fill.specs.Slot.{Slot, slot_width, is_entry}
use Rattle.fill.specs.Entry.{
  Entry,
  entry_slot,
  trade_of,
  number_of,
  entry_side_of,
  transaction_of,
  correction_of,
  original_of,
  entry_shares_of,
  entry_price_of,
  entry_time_of,
  entry_lawful,
}
use Rattle.fill.specs.Booked.{slot_lawful}
use Rattle.fill.proofs.Entry.{
  SoundEntry,
  entry_length,
  entry-normal,
  entry-lawful,
  booked-lawful,
  trade-back,
  number-back,
  entry-side-back,
  transaction-back,
  correction-back,
  original-back,
  entry-shares-back,
  entry-price-back,
  entry-time-back,
}
use Rattle.report.specs.Correction.{entry_for, entry_in}
use Rattle.report.specs.Correction as told
use Rattle.report.specs.Carried.{Enters}
use Rattle.report.proofs.Lawful.{side-one}

-- what a correction says
abbrev pub correction_in : Pieces → Entry
correction_in ps = told.correction_of (look_of ps)

pub entry-made : (ps : Pieces) → entry_in ps ≡ entry_slot (correction_in ps)
unfolding entry_for
entry-made ps = refl

-- ---- of any pieces
pub entry-long : (ps : Pieces) → length (entry_in ps) ≡ slot_width
entry-long ps = ap length (entry-made ps) ∙ entry_length (correction_in ps)

pub entry-marked : (ps : Pieces) → is_entry (entry_in ps) ≡ true
entry-marked ps = ap is_entry (entry-made ps)

pub entry-ends : (ps : Pieces) → get_or (entry_in ps) (slot_width - 1) 0 ≡ 0
entry-ends ps = ap (λ (s : Slot). get_or s (slot_width - 1) 0) (entry-made ps) ∙ entry-normal (correction_in ps)

-- ---- of a correction that passed the table

pub sound_back : (ps : Pieces) → SoundEntry (correction_in ps) → Enters ps (entry_in ps)
sound_back ps y =
    let e = correction_in ps in
    let made = entry-made ps in
    let numbers = y.number-most in
    let sides = between-high 1 2 (number_at 54 ps) y.side-one in
    let transactions = y.transaction-most in
    let corrections = between-high 1 5 (number_at 9020 ps) y.correction-one in
    let execs = y.exec-short in
    let sharing = y.shares-most in
    let prices = y.price-most in
    record {
      trade = ap (λ (s : Slot). text_of (trade_of s)) made ∙ trade-back e y.trade-short;
      number = ap number_of made ∙ number-back e (omega arith);
      side = ap entry_side_of made ∙ entry-side-back e (omega arith);
      transaction = ap transaction_of made ∙ transaction-back e (omega arith);
      correction = ap correction_of made ∙ correction-back e (omega arith);
      original = ap (λ (s : Slot). text_of (original_of s)) made ∙ original-back e (omega arith);
      shares = ap entry_shares_of made ∙ entry-shares-back e (omega arith);
      price = ap entry_price_of made ∙ entry-price-back e (omega arith);
      time = ap entry_time_of made ∙ entry-time-back e (time-is (text_at 60 ps) y.time-time).lengths;
    }

pub fields-sound : (ps : Pieces) → CorrectionFields ps → SoundEntry (correction_in ps)
fields-sound ps f = record {
  trade-some = f.trade.such.from;
  trade-short = f.trade.such.to;
  trade-graph = f.trade.such.bytes;
  number-most = f.correction_number.such.most;
  side-one = side-one ps (one_of 49 50 _ f.side.such);
  transaction-most = between-high 0 2 (number_at 20 ps) (transaction-number (text_at 20 ps) f.transaction.such);
  correction-one = correction-number (text_at 9020 ps) f.correction_type.such;
  exec-some = f.exec.such.from;
  exec-short = f.exec.such.to;
  exec-graph = f.exec.such.bytes;
  shares-some = f.shares.such.least;
  shares-most = f.shares.such.most;
  price-most = price-small (text_at 31 ps);
  time-time = f.time.such;
}

module _ (setup : Setup) (phase : Phase) (o : ℕ) (ps : Pieces) (fine : fault_in setup phase o ps ≡ none) (e : kind_in setup ps ≡ kind.Correction) where
  pub correction-sound : SoundEntry (correction_in ps)
  correction-sound = fields-sound ps (correction-values setup phase o ps fine e)

  pub correction-kept : Enters ps (entry_in ps)
  correction-kept = sound_back ps correction-sound

  pub correction-lawful : entry_lawful (entry_in ps) ≡ true
  correction-lawful = ap entry_lawful (entry-made ps) ∙ entry-lawful (correction_in ps) correction-sound

  pub correction-booked : slot_lawful (entry_in ps) ≡ true
  correction-booked = ap slot_lawful (entry-made ps) ∙ booked-lawful (correction_in ps) correction-sound
