-- What a message says stands in the slot that it brings, part by part.
use Rattle.std.specs.Prelude.{◌≡◌}
use Rattle.octet.specs.Padded.{text_of}
use Rattle.value.specs.Value.{price_in}
use Rattle.field.specs.Pieces.{Pieces, text_at}
use Rattle.table.specs.Steps.{number_at}
use Rattle.fill.specs.Slot.{Slot, full_time, exec_of, order_of, symbol_of, side_of, quantity_of, shares_of, price_of, cum_of, time_of}
use Rattle.fill.specs.Entry.{trade_of, number_of, entry_side_of, transaction_of, correction_of, original_of, entry_shares_of, entry_price_of, entry_time_of}

-- the fill has what the report says
pub record Carries (ps : Pieces) (f : Slot) : Type 0 where
  pub exec : text_of (exec_of f) ≡ text_at 17 ps
  pub order : text_of (order_of f) ≡ text_at 37 ps
  pub symbol : text_of (symbol_of f) ≡ text_at 55 ps
  pub side : side_of f ≡ number_at 54 ps
  pub quantity : quantity_of f ≡ number_at 38 ps
  pub shares : shares_of f ≡ number_at 32 ps
  pub price : price_of f ≡ price_in (text_at 31 ps)
  pub cum : cum_of f ≡ number_at 14 ps
  pub time : time_of f ≡ full_time (text_at 60 ps)

-- the entry has what the correction says: the key, the trade that it changes, and the change
pub record Enters (ps : Pieces) (e : Slot) : Type 0 where
  pub trade : text_of (trade_of e) ≡ text_at 1003 ps
  pub number : number_of e ≡ number_at 9021 ps
  pub side : entry_side_of e ≡ number_at 54 ps
  pub transaction : transaction_of e ≡ number_at 20 ps
  pub correction : correction_of e ≡ number_at 9020 ps
  pub original : text_of (original_of e) ≡ text_at 17 ps
  pub shares : entry_shares_of e ≡ number_at 32 ps
  pub price : entry_price_of e ≡ price_in (text_at 31 ps)
  pub time : entry_time_of e ≡ full_time (text_at 60 ps)
