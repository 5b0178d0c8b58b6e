-- Trade Cancel/Correct: the entry that a message tells of which passed the table, by a look at its body. No rule between the fields follows.
use Rattle.value.specs.Value.{price_in}
use Rattle.field.specs.Pieces.{Pieces}
use Rattle.field.specs.Look.{Look, look_of}
use Rattle.table.specs.Steps.{number_of}
use Rattle.fill.specs.Slot.{Slot}
use Rattle.fill.specs.Entry.{Entry, entry_slot}

-- the key (1003, 9021, 54, 20), the trade that it changes (17), and what the change itself says (9020, 32, 31, 60). "From original trade" (37, 11, 42, 167, 55) is asked for and
-- not kept: 17 names that trade
abbrev pub correction_of : Look → Entry
correction_of look = record {
  trade = look.text 1003;
  number = number_of look 9021;
  side = number_of look 54;
  transaction = number_of look 20;
  correction = number_of look 9020;
  exec = look.text 17;
  shares = number_of look 32;
  price = price_in (look.text 31);
  time = look.text 60;
}

unfoldable pub entry_for : Look → Slot
entry_for look = entry_slot (correction_of look)

-- on the pieces of a body
abbrev pub entry_in : Pieces → Slot
entry_in ps = entry_for (look_of ps)
