-- A lawful slot of a fill is made of what it tells: nothing of its bytes is left open.
--     told-sound     what it tells is what a report can say of a fill
--     slot-again     and the slot of that is the slot itself
use mathlib.Core.Path.{◌≡◌, sym, ap, ◌∙◌}
use mathlib.Core.List.{List, ◌∷◌}
use mathlib.Core.Bool.{true, ◌&&◌}
use Prim.Native.Nat.{ℕ, ◌+◌, ◌-◌, ◌≤◌, ◌<◌}
use native.Mathlib.Omega.{arith}
use lib.ListN.{length, drop}
use borrow.Author.Tests.{leb-true, eqb-true}
use Rattle.octet.specs.Bytes.{all_in, part}
use Rattle.octet.specs.Padded.{padded, text_of}
use Rattle.octet.proofs.Cases.{and_both}
use Rattle.octet.proofs.Lists.{length_part, all_in-part, drop-step}
use Rattle.octet.proofs.Padded.{ok-text, ok-padded, ok-least}
use Rattle.parts.specs.Parts.{Value, laid}
use Rattle.parts.proofs.ReadBack.{AllFormed, values_from, laid-again}
use Rattle.fill.specs.Slot.{Slot, Fill, fill_of, slot_parts, values_of, width_of, place_of, slot_width, body_of, slot_of, fill_mark, mark_of, is_fill}
use Rattle.fill.specs.Slot.{exec_of, order_of, symbol_of, side_of, quantity_of, shares_of, price_of, cum_of, time_of, text_lawful, most_price, fill_lawful}
use Rattle.fill.proofs.Fields.{Sound}
use Rattle.fill.proofs.Lawful.{lawful-parts, lawful-sums}
use Rattle.fill.proofs.Lines.{text-most}

-- what a slot tells of a fill
abbrev pub told_by : Slot → Fill
told_by s =
    fill_of (text_of (exec_of s)) (text_of (order_of s)) (text_of (symbol_of s)) (side_of s) (quantity_of s) (shares_of s) (price_of s) (cum_of s) (time_of s)

-- its texts
texts : (s : Slot) → fill_lawful s ≡ true → (text_lawful (exec_of s) ≡ true) × (text_lawful (order_of s) ≡ true) × (text_lawful (symbol_of s) ≡ true)
texts s e =
    let two = and_both (text_lawful (exec_of s) && text_lawful (order_of s)) (text_lawful (symbol_of s)) (lawful-parts s e).0 in
    let one = and_both (text_lawful (exec_of s)) (text_lawful (order_of s)) two.0 in
    (one.0, one.1, two.1)

-- a text of a lawful slot, in a part of some width
text-formed : (width : ℕ) (f : List ℕ) → length f ≡ width → 1 ≤ width → text_lawful f ≡ true → (padded width (text_of f) ≡ f) × (length (text_of f) < width)
text-formed width f l h e =
    (ap (λ (w : ℕ). padded w (text_of f)) (sym l) ∙ ok-padded 1 33 126 f (omega arith) e, omega (arith, text-most (width - 1) f (omega arith)))

module _ (s : Slot) (wide : length s ≡ slot_width) (law : fill_lawful s ≡ true) where
  part-long : (i : ℕ) → place_of i + width_of i ≤ slot_width → length (part (place_of i) (width_of i) s) ≡ width_of i
  part-long i h = length_part (place_of i) (width_of i) s (omega arith)

  pub told-sound : Sound (told_by s)
  told-sound =
      let t = texts s law in
      let p = lawful-parts s law in
      let n = lawful-sums s law in
      let exec-long : length (exec_of s) ≡ 21 = part-long 0 (omega arith) in
      let order-long : length (order_of s) ≡ 21 = part-long 1 (omega arith) in
      let symbol-long : length (symbol_of s) ≡ 9 = part-long 2 (omega arith) in
      record {
        exec-some = ok-least 1 33 126 (exec_of s) (omega arith) t.0;
        exec-short = text-most 20 (exec_of s) (omega arith);
        exec-graph = ok-text 1 33 126 (exec_of s) t.0;
        order-some = ok-least 1 33 126 (order_of s) (omega arith) t.1;
        order-short = text-most 20 (order_of s) (omega arith);
        order-graph = ok-text 1 33 126 (order_of s) t.1;
        symbol-some = ok-least 1 33 126 (symbol_of s) (omega arith) t.2;
        symbol-short = text-most 8 (symbol_of s) (omega arith);
        symbol-graph = ok-text 1 33 126 (symbol_of s) t.2;
        side-one = p.1;
        shares-some = n.some;
        shares-cum = n.cum;
        cum-quantity = n.quantity;
        quantity-most = n.most;
        price-most = leb-true (price_of s) most_price p.3;
        time-time = p.4;
      }

  module _ (fill : is_fill s ≡ true) (bytes : all_in 0 255 s ≡ true) where
    marked : s ≡ fill_mark ∷ drop 1 s
    marked = drop-step s 0 (omega arith) ∙ ap (λ (b : ℕ). b ∷ drop 1 s) (eqb-true (mark_of s) fill_mark fill)

    formed : AllFormed slot_parts 1 s
    formed =
        let t = texts s law in
        let exec = text-formed 21 (exec_of s) (part-long 0 (omega arith)) (omega arith) t.0 in
        let order = text-formed 21 (order_of s) (part-long 1 (omega arith)) (omega arith) t.1 in
        let symbol = text-formed 9 (symbol_of s) (part-long 2 (omega arith)) (omega arith) t.2 in
        let n : (i : ℕ) → all_in 0 255 (part (place_of i) (width_of i) s) ≡ true = λ i. all_in-part 0 255 (place_of i) (width_of i) s bytes in
        (exec, (order, (symbol, (n 3, (n 4, (n 5, (n 6, (n 7, (tt, tt)))))))))

    -- its time is whole
    told-values : values_of (told_by s) ≡ values_from slot_parts 1 s
    told-values = rw (part-long 8 (omega arith))

    pub slot-again : slot_of (body_of (told_by s)) ≡ s
    unfolding body_of
    slot-again =
        ap (λ (vs : List Value). fill_mark ∷ laid slot_parts vs) told-values
        ∙ ap (λ (b : List ℕ). fill_mark ∷ b) (laid-again slot_parts 1 s wide formed)
        ∙ sym marked
