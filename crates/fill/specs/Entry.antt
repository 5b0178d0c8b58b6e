-- An entry is a slot too: what a Trade Cancel/Correct says beside the trade that it changes. Its parts, its key, when it is lawful, and its line of the listing.
use Rattle.std.specs.Prelude.{ℕ, List, [], ◌∷◌, ◌++◌, Bool, ◌&&◌, get_or, take, leb}
use Rattle.octet.specs.Bytes.{bytes_of, between, part, sum_of}
use Rattle.octet.specs.Places.{big_endian}
use Rattle.octet.specs.Padded.{text_of}
use Rattle.parts.specs.Parts.{Part, Text, Number, Raw, Value, Bytes, Count, widths_of, laid}
use Rattle.answer.specs.Numbers.{nine_digits, most_contracts}
use Rattle.text.specs.Decimal.{decimal}
use Rattle.value.specs.Value.{is_time}
use Rattle.fill.specs.Slot.{Slot, entry_mark, full_time, place_in, field_in, text_lawful, most_price, spaced, line_feed}

-- TradeID (1003), CorrectionNum (9021), Side (54), ExecTransType (20), CorrectionType (9020), ExecID (17), LastShares (32), LastPX (31) and TransactTime (60)
pub record Entry : Type 0 where
  pub trade : List ℕ
  pub number : ℕ
  pub side : ℕ
  pub transaction : ℕ
  pub correction : ℕ
  pub exec : List ℕ
  pub shares : ℕ
  pub price : ℕ
  pub time : List ℕ

abbrev pub entry_of : List ℕ → ℕ → ℕ → ℕ → ℕ → List ℕ → ℕ → ℕ → List ℕ → Entry
entry_of trade number side transaction correction exec shares price time =
    record {
      trade = trade;
      number = number;
      side = side;
      transaction = transaction;
      correction = correction;
      exec = exec;
      shares = shares;
      price = price;
      time = time;
    }

-- ---- the body: its parts, as in a note of kind C after E and O; the time has what is left of a slot's width, one zero

abbrev pub entry_parts : List Part
entry_parts = Text 21 ∷ Number 4 ∷ Number 1 ∷ Number 1 ∷ Number 1 ∷ Text 31 ∷ Number 4 ∷ Number 8 ∷ Raw 22 ∷ []

abbrev pub entry_widths : List ℕ
entry_widths = widths_of entry_parts

abbrev pub entry_width_of : ℕ → ℕ
entry_width_of i = get_or entry_widths i 0

abbrev pub time_width : ℕ
time_width = 21

-- what the message says for each part; a time that is too long is cut
abbrev pub entry_values : Entry → List Value
entry_values e =
    Bytes e.trade ∷ Count e.number ∷ Count e.side ∷ Count e.transaction ∷ Count e.correction ∷ Bytes e.exec ∷ Count e.shares ∷ Count e.price
    ∷ Bytes (take time_width (full_time e.time)) ∷ []

unfoldable pub entry_body : Entry → List ℕ
entry_body e = laid entry_parts (entry_values e)

abbrev pub entry_slot : Entry → Slot
entry_slot e = entry_mark ∷ entry_body e

-- ---- the parts of a slot that is an entry

abbrev pub entry_place_of : ℕ → ℕ
entry_place_of i = place_in entry_widths i

abbrev pub entry_field : ℕ → Slot → List ℕ
entry_field i s = field_in entry_widths i s

abbrev pub trade_of : Slot → List ℕ
trade_of s = entry_field 0 s

abbrev pub number_of : Slot → ℕ
number_of s = big_endian (entry_field 1 s)

abbrev pub entry_side_of : Slot → ℕ
entry_side_of s = big_endian (entry_field 2 s)

abbrev pub transaction_of : Slot → ℕ
transaction_of s = big_endian (entry_field 3 s)

abbrev pub correction_of : Slot → ℕ
correction_of s = big_endian (entry_field 4 s)

abbrev pub original_of : Slot → List ℕ
original_of s = entry_field 5 s

abbrev pub entry_shares_of : Slot → ℕ
entry_shares_of s = big_endian (entry_field 6 s)

abbrev pub entry_price_of : Slot → ℕ
entry_price_of s = big_endian (entry_field 7 s)

abbrev pub entry_time_of : Slot → List ℕ
entry_time_of s = part (entry_place_of 8) time_width s

-- "TradeID, CorrectionNum, Side and ExecTransType together say whether we have it already": the first four parts, as they stand one after another. What an entry keeps beside them
-- are its contents
abbrev pub key_width : ℕ
key_width = sum_of (take 4 entry_widths)

abbrev pub key_of : Slot → List ℕ
key_of s = part 1 key_width s

-- ---- a body that is so formed, with values that a Trade Cancel/Correct can have

-- 17: "1 to 20 bytes", in a field that has room for 30
abbrev pub longest_original : ℕ
longest_original = 20

abbrev pub names_lawful : Slot → Bool
names_lawful s = text_lawful (trade_of s) && text_lawful (original_of s) && leb (get_or (original_of s) 0 0) longest_original

-- CorrectionNum has one to nine digits; 54 is 1 or 2, 20 is 0 to 2, 9020 is 1 to 5
abbrev pub codes_lawful : Slot → Bool
codes_lawful s = leb (number_of s) nine_digits && between 1 2 (entry_side_of s) && leb (transaction_of s) 2 && between 1 5 (correction_of s)

unfoldable pub entry_lawful : Slot → Bool
entry_lawful s =
    names_lawful s && codes_lawful s && between 1 most_contracts (entry_shares_of s) && leb (entry_price_of s) most_price && is_time (entry_time_of s)

-- ---- "The list prints `C`, the number and the four key fields"

unfoldable pub entry_line : ℕ → Slot → List ℕ
entry_line n s =
    spaced (
    bytes_of "C" ∷ decimal n ∷ text_of (trade_of s) ∷ decimal (number_of s) ∷ decimal (entry_side_of s) ∷ decimal (transaction_of s) ∷ []) ++ line_feed
