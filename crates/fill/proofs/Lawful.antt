-- What the tests of a lawful slot come to.
--     no-entry, no-fill     no slot is both
--     lawful-entry, lawful-fill     what is asked of a slot, by its first byte
--     lawful-parts     what is asked of a fill, one by one
--     lawful-sums     what the sums of a lawful fill are
use mathlib.Core.Path.{◌≡◌, ap}
use mathlib.Core.Bool.{true, false, ◌&&◌}
use Prim.Native.Nat.{ℕ, ◌≤◌}
use lib.Dec.{leb, eqb}
use Rattle.octet.specs.Bytes.{between}
use borrow.Author.Tests.{leb-true, eqb-true}
use Rattle.octet.proofs.Cases.{and_both}
use Rattle.value.specs.Value.{is_time}
use Rattle.fill.specs.Slot.{Slot, is_fill, is_entry, fill_mark, entry_mark, mark_of, side_of, quantity_of, shares_of, price_of, cum_of, time_of, texts_lawful, sums_lawful, most_price, fill_lawful}
use Rattle.fill.specs.Entry.{entry_lawful}
use Rattle.fill.specs.Booked.{slot_lawful}
use Rattle.answer.specs.Numbers.{most_contracts}

module _ (s : Slot) where
  -- any slot, by its first byte
  pub no-entry : is_fill s ≡ true → is_entry s ≡ false
  no-entry e = ap (λ (n : ℕ). eqb n entry_mark) (eqb-true (mark_of s) fill_mark e)

  pub no-fill : is_entry s ≡ true → is_fill s ≡ false
  no-fill e = ap (λ (n : ℕ). eqb n fill_mark) (eqb-true (mark_of s) entry_mark e)

  pub lawful-entry : is_entry s ≡ true → slot_lawful s ≡ entry_lawful s
  unfolding slot_lawful
  lawful-entry e = rw e

  pub lawful-fill : is_entry s ≡ false → slot_lawful s ≡ fill_lawful s
  unfolding slot_lawful
  lawful-fill e = rw e

-- what is asked of a fill, one by one
pub lawful-parts : (s : Slot) → fill_lawful s ≡ true
    → (texts_lawful s ≡ true) × (between 1 2 (side_of s) ≡ true) × (sums_lawful s ≡ true) × (leb (price_of s) most_price ≡ true) × (is_time (time_of s) ≡ true)
unfolding fill_lawful
lawful-parts s e =
    let four = and_both (texts_lawful s && between 1 2 (side_of s) && sums_lawful s && leb (price_of s) most_price) (is_time (time_of s)) e in
    let three = and_both (texts_lawful s && between 1 2 (side_of s) && sums_lawful s) (leb (price_of s) most_price) four.0 in
    let two = and_both (texts_lawful s && between 1 2 (side_of s)) (sums_lawful s) three.0 in
    let one = and_both (texts_lawful s) (between 1 2 (side_of s)) two.0 in
    (one.0, one.1, two.1, three.1, four.1)

-- what the sums of a lawful fill are
pub record Sums (s : Slot) : Type 0 where
  pub some : 1 ≤ shares_of s
  pub cum : shares_of s ≤ cum_of s
  pub quantity : cum_of s ≤ quantity_of s
  pub most : quantity_of s ≤ most_contracts

pub lawful-sums : (s : Slot) → fill_lawful s ≡ true → Sums s
lawful-sums s e =
    let three = and_both (leb 1 (shares_of s) && leb (shares_of s) (cum_of s) && leb (cum_of s) (quantity_of s)) (leb (quantity_of s) most_contracts) (lawful-parts s e).2 in
    let two = and_both (leb 1 (shares_of s) && leb (shares_of s) (cum_of s)) (leb (cum_of s) (quantity_of s)) three.0 in
    let one = and_both (leb 1 (shares_of s)) (leb (shares_of s) (cum_of s)) two.0 in
    record {
      some = leb-true 1 (shares_of s) one.0;
      cum = leb-true (shares_of s) (cum_of s) one.1;
      quantity = leb-true (cum_of s) (quantity_of s) two.1;
      most = leb-true (quantity_of s) most_contracts three.1;
    }
