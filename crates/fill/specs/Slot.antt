-- A slot is a byte that says what it is, a fill or an entry, and its body. Of a fill: its parts, when it is lawful, and its line of the listing. Entry has the same of an entry,
-- and Booked what is said of any slot.
use Rattle.std.specs.Prelude.{ℕ, ◌+◌, List, [], ◌∷◌, ◌++◌, Bool, cond, ◌&&◌, length, get_or, take, drop, leb, eqb}
use Rattle.octet.specs.Bytes.{bytes_of, between, part, sum_of}
use Rattle.octet.specs.Places.{big_endian}
use Rattle.octet.specs.Padded.{padded_ok, text_of}
use Rattle.parts.specs.Parts.{Part, Text, Number, Raw, Value, Bytes, Count, widths_of, laid}
use Rattle.answer.specs.declared.Setup.{Setup}
use Rattle.answer.specs.Numbers.{most_contracts}
use Rattle.text.specs.Decimal.{decimal, price_text}
use Rattle.value.specs.Value.{is_time}

abbrev pub Slot : Type 0
Slot = List ℕ

-- what a report says of a fill
pub record Fill : Type 0 where
  pub exec : List ℕ
  pub order : List ℕ
  pub symbol : List ℕ
  pub side : ℕ
  pub quantity : ℕ
  pub shares : ℕ
  pub price : ℕ
  pub cum : ℕ
  pub time : List ℕ

abbrev pub fill_of : List ℕ → List ℕ → List ℕ → ℕ → ℕ → ℕ → ℕ → ℕ → List ℕ → Fill
fill_of exec order symbol side quantity shares price cum time =
    record { exec = exec; order = order; symbol = symbol; side = side; quantity = quantity; shares = shares; price = price; cum = cum; time = time }

-- ---- the body: "ExecID 21, OrderID 21, symbol 9, side 1 (a number), OrderQty 4, LastShares 4, price 8, CumQty 4, time (60) 21"

-- its parts; "texts a length byte and zero padding", "The time has no length byte"
abbrev pub slot_parts : List Part
slot_parts = Text 21 ∷ Text 21 ∷ Text 9 ∷ Number 1 ∷ Number 4 ∷ Number 4 ∷ Number 8 ∷ Number 4 ∷ Raw 21 ∷ []

abbrev pub widths : List ℕ
widths = widths_of slot_parts

abbrev pub width_of : ℕ → ℕ
width_of i = get_or widths i 0

abbrev pub body_width : ℕ
body_width = sum_of widths

abbrev pub slot_width : ℕ
slot_width = 1 + body_width

-- "one of 17 bytes gets .000"
abbrev pub full_time : List ℕ → List ℕ
full_time t = cond (eqb (length t) 17) (t ++ bytes_of ".000") t

-- what a report says for each part
abbrev pub values_of : Fill → List Value
values_of f =
    Bytes f.exec ∷ Bytes f.order ∷ Bytes f.symbol ∷ Count f.side ∷ Count f.quantity ∷ Count f.shares ∷ Count f.price ∷ Count f.cum
    ∷ Bytes (full_time f.time) ∷ []

-- a text that is too long is cut
unfoldable pub body_of : Fill → List ℕ
body_of f = laid slot_parts (values_of f)

-- the first byte of a slot says what it is
abbrev pub fill_mark : ℕ
fill_mark = 1

abbrev pub entry_mark : ℕ
entry_mark = 2

abbrev pub mark_of : Slot → ℕ
mark_of s = get_or s 0 0

abbrev pub slot_of : List ℕ → Slot
slot_of body = fill_mark ∷ body

abbrev pub note_body_of : Slot → List ℕ
note_body_of s = drop 1 s

abbrev pub is_fill : Slot → Bool
is_fill s = eqb (mark_of s) fill_mark

abbrev pub is_entry : Slot → Bool
is_entry s = eqb (mark_of s) entry_mark

-- ---- the parts of a slot

-- where part i of those widths stands: after the byte that says what the slot is, one after another
abbrev pub place_in : List ℕ → ℕ → ℕ
place_in ws i = 1 + sum_of (take i ws)

abbrev pub field_in : List ℕ → ℕ → Slot → List ℕ
field_in ws i s = part (place_in ws i) (get_or ws i 0) s

-- of a fill
abbrev pub place_of : ℕ → ℕ
place_of i = place_in widths i

abbrev pub field : ℕ → Slot → List ℕ
field i s = field_in widths i s

abbrev pub exec_of : Slot → List ℕ
exec_of s = field 0 s

abbrev pub order_of : Slot → List ℕ
order_of s = field 1 s

abbrev pub symbol_of : Slot → List ℕ
symbol_of s = field 2 s

abbrev pub side_of : Slot → ℕ
side_of s = big_endian (field 3 s)

abbrev pub quantity_of : Slot → ℕ
quantity_of s = big_endian (field 4 s)

abbrev pub shares_of : Slot → ℕ
shares_of s = big_endian (field 5 s)

abbrev pub price_of : Slot → ℕ
price_of s = big_endian (field 6 s)

abbrev pub cum_of : Slot → ℕ
cum_of s = big_endian (field 7 s)

abbrev pub time_of : Slot → List ℕ
time_of s = field 8 s

-- ---- a body that is so formed, with values that a report can have

abbrev pub text_lawful : List ℕ → Bool
text_lawful t = padded_ok 1 33 126 t

abbrev pub texts_lawful : Slot → Bool
texts_lawful s = text_lawful (exec_of s) && text_lawful (order_of s) && text_lawful (symbol_of s)

abbrev pub sums_lawful : Slot → Bool
sums_lawful s = leb 1 (shares_of s) && leb (shares_of s) (cum_of s) && leb (cum_of s) (quantity_of s) && leb (quantity_of s) most_contracts

-- "A price is 1 to 7 digits, or those, a point and 1 to 4 digits", "kept in ten-thousandths"
abbrev pub most_price : ℕ
most_price = 99999999999

unfoldable pub fill_lawful : Slot → Bool
fill_lawful s =
    texts_lawful s && between 1 2 (side_of s) && sums_lawful s && leb (price_of s) most_price && is_time (time_of s)

-- ---- "number, ExecID, OrderID, symbol, side, LastShares, price with four decimals, time, single spaces"

abbrev pub spaced : List (List ℕ) → List ℕ
spaced [] = []
spaced (w ∷ []) = w
spaced (w ∷ v ∷ ws) = w ++ bytes_of " " ++ spaced (v ∷ ws)

-- no line of a slot of bytes has more: "line buffer under 128 bytes"
abbrev pub line_room : ℕ
line_room = 128

-- what a line buffer has at least, by the set-up
abbrev pub line_least : Setup → ℕ
line_least setup = line_room

-- "number, ExecID, OrderID, symbol"
abbrev pub names_of : ℕ → Slot → List ℕ
names_of n s = spaced (decimal n ∷ text_of (exec_of s) ∷ text_of (order_of s) ∷ text_of (symbol_of s) ∷ [])

-- "side, LastShares, price with four decimals"
abbrev pub figures_of : Slot → List ℕ
figures_of s = spaced (decimal (side_of s) ∷ decimal (shares_of s) ∷ price_text (price_of s) ∷ [])

abbrev pub line_feed : List ℕ
line_feed = 10 ∷ []

unfoldable pub fill_line : ℕ → Slot → List ℕ
fill_line n s =
    spaced (
    decimal n ∷ text_of (exec_of s) ∷ text_of (order_of s) ∷ text_of (symbol_of s) ∷ decimal (side_of s)
    ∷ decimal (shares_of s) ∷ price_text (price_of s) ∷ time_of s ∷ []) ++ line_feed
