-- A slot that is made of a fill: how long it is, that it reads back field by field, and that it is lawful.
--     slot-size     the paper's number
--     fill-made     it is made of the fill's parts (Made.antt)
--     slot-length     a slot has slot_width bytes, whatever the fill
--     slot-marked, slot-no-entry     what its first byte says
--     exec-back, order-back, .. time-back     what is written reads back
--     slot-lawful     the slot of a fill whose values a report can have is lawful
use mathlib.Core.Path.{◌≡◌, refl, ap, ◌∙◌}
use mathlib.Core.List.{List, ◌∷◌, ◌++◌, append-nil}
use mathlib.Core.Logic.{◌⊎◌}
use mathlib.Core.Bool.{true, false}
use Prim.Native.Nat.{ℕ, ◌≤◌, ◌<◌, ◌^◌}
use native.Mathlib.Omega.{arith}
use lib.ListN.{length, set}
use borrow.Author.Tests.{le-leb}
use Rattle.octet.specs.Bytes.{between, all_in}
use Rattle.octet.specs.Places.{high}
use Rattle.octet.specs.Splice.{splice}
use Rattle.octet.specs.Padded.{text_of}
use Rattle.octet.proofs.Lists.{between-high, drop-done}
use Rattle.value.specs.Value.{is_time}
use Rattle.value.proofs.Times.{time-is}
use Rattle.parts.specs.Parts.{text_field, laid}
use Rattle.parts.specs.Relaid.{filled}
use Rattle.parts.proofs.ReadBack.{AllSized, written}
use Rattle.fill.specs.Slot.{
  Fill,
  slot_parts,
  values_of,
  width_of,
  place_of,
  body_width,
  slot_width,
  full_time,
  body_of,
  slot_of,
  fill_mark,
  is_fill,
  is_entry,
  exec_of,
  order_of,
  symbol_of,
  side_of,
  quantity_of,
  shares_of,
  price_of,
  cum_of,
  time_of,
  most_price,
  fill_lawful,
}
use Rattle.fill.specs.Booked.{slot_lawful}
use Rattle.answer.specs.Numbers.{most_contracts}
use Rattle.fill.proofs.Made.{Made, made-length, part-is, text-back, high-back, text-lawful, made-rest, byte_put, time-whole, full-is-time}

pub slot-size : slot_width ≡ 94
slot-size = refl

parts-sized : AllSized slot_parts
parts-sized = (omega arith, (omega arith, (omega arith, (tt, (tt, (tt, (tt, (tt, (tt, tt)))))))))

module _ (f : Fill) where
  abbrev made : List ℕ
  made = slot_of (body_of f)

  pub fill-made : Made fill_mark slot_parts (values_of f) made
  unfolding body_of
  fill-made = record { sized = parts-sized; laid_so = refl }

  pub slot-length : length made ≡ slot_width
  slot-length = made-length fill-made

  pub slot-marked : is_fill made ≡ true
  slot-marked = refl

  pub slot-no-entry : is_entry made ≡ false
  slot-no-entry = refl

  pub exec-back : length f.exec ≤ 20 → text_of (exec_of made) ≡ f.exec
  exec-back h = text-back fill-made 0 (width_of 0) f.exec refl (omega arith)

  pub order-back : length f.order ≤ 20 → text_of (order_of made) ≡ f.order
  order-back h = text-back fill-made 1 (width_of 1) f.order refl (omega arith)

  pub symbol-back : length f.symbol ≤ 8 → text_of (symbol_of made) ≡ f.symbol
  symbol-back h = text-back fill-made 2 (width_of 2) f.symbol refl (omega arith)

  pub side-back : f.side < 256 → side_of made ≡ f.side
  side-back h = high-back fill-made 3 (width_of 3) f.side refl h

  pub quantity-back : f.quantity < 256 ^ 4 → quantity_of made ≡ f.quantity
  quantity-back h = high-back fill-made 4 (width_of 4) f.quantity refl h

  pub shares-back : f.shares < 256 ^ 4 → shares_of made ≡ f.shares
  shares-back h = high-back fill-made 5 (width_of 5) f.shares refl h

  pub price-back : f.price < 256 ^ 8 → price_of made ≡ f.price
  price-back h = high-back fill-made 6 (width_of 6) f.price refl h

  pub cum-back : f.cum < 256 ^ 4 → cum_of made ≡ f.cum
  cum-back h = high-back fill-made 7 (width_of 7) f.cum refl h

  pub time-back : (length f.time ≡ 17) ⊎ (length f.time ≡ 21) → time_of made ≡ full_time f.time
  time-back h = part-is fill-made 8 ∙ time-whole f.time h

-- ---- made part by part
made-slot : (f : Fill) (rest : List ℕ) → length rest ≡ body_width → written (fill_mark ∷ rest) 1 slot_parts (values_of f) ≡ slot_of (body_of f)
unfolding body_of
made-slot f rest h =
    let b = laid slot_parts (values_of f) in
    made-rest fill_mark slot_parts (values_of f) rest parts-sized (omega arith)
    ∙ ap (λ (l : List ℕ). fill_mark ∷ b ++ l) (drop-done rest body_width (omega arith))
    ∙ append-nil (fill_mark ∷ b)

-- the mark and the nine parts, one after another
pub slot-made : (f : Fill) (rest a b d e g h i j k : List ℕ) → length rest ≡ body_width → f.side < 256
    → a ≡ splice (fill_mark ∷ rest) (place_of 0) (text_field (width_of 0) f.exec) → b ≡ splice a (place_of 1) (text_field (width_of 1) f.order)
    → d ≡ splice b (place_of 2) (text_field (width_of 2) f.symbol) → e ≡ set d (place_of 3) f.side
    → g ≡ splice e (place_of 4) (high (width_of 4) f.quantity) → h ≡ splice g (place_of 5) (high (width_of 5) f.shares)
    → i ≡ splice h (place_of 6) (high (width_of 6) f.price) → j ≡ splice i (place_of 7) (high (width_of 7) f.cum)
    → k ≡ splice j (place_of 8) (filled (width_of 8) (full_time f.time)) → k ≡ slot_of (body_of f)
slot-made f rest a b d e g h i j k n s ea eb ed ee eg eh ei ej ek =
    let es = byte_put d (place_of 3) f.side s in
    cc (made-slot f rest n)

-- ---- lawful

-- what a report can say of a fill
pub record Sound (f : Fill) : Type 0 where
  pub exec-some : 1 ≤ length f.exec
  pub exec-short : length f.exec ≤ 20
  pub exec-graph : all_in 33 126 f.exec ≡ true
  pub order-some : 1 ≤ length f.order
  pub order-short : length f.order ≤ 20
  pub order-graph : all_in 33 126 f.order ≡ true
  pub symbol-some : 1 ≤ length f.symbol
  pub symbol-short : length f.symbol ≤ 8
  pub symbol-graph : all_in 33 126 f.symbol ≡ true
  pub side-one : between 1 2 f.side ≡ true
  pub shares-some : 1 ≤ f.shares
  pub shares-cum : f.shares ≤ f.cum
  pub cum-quantity : f.cum ≤ f.quantity
  pub quantity-most : f.quantity ≤ most_contracts
  pub price-most : f.price ≤ most_price
  pub time-time : is_time f.time ≡ true

pub fill-lawful : (f : Fill) → Sound f → fill_lawful (slot_of (body_of f)) ≡ true
unfolding fill_lawful
fill-lawful f y =
    let m = fill-made f in
    let a = text-lawful m 0 (width_of 0) f.exec refl y.exec-some (omega arith) (omega arith) y.exec-graph in
    let b = text-lawful m 1 (width_of 1) f.order refl y.order-some (omega arith) (omega arith) y.order-graph in
    let d = text-lawful m 2 (width_of 2) f.symbol refl y.symbol-some (omega arith) (omega arith) y.symbol-graph in
    let side-most = between-high 1 2 f.side y.side-one in
    let e = side-back f (omega arith) in
    let q = quantity-back f (omega arith) in
    let s = shares-back f (omega arith) in
    let p = price-back f (omega arith) in
    let k = cum-back f (omega arith) in
    let t = time-back f (time-is f.time y.time-time).lengths in
    let some = le-leb 1 f.shares y.shares-some in
    let sum = le-leb f.shares f.cum y.shares-cum in
    let of = le-leb f.cum f.quantity y.cum-quantity in
    let most = le-leb f.quantity most_contracts y.quantity-most in
    let dearest = le-leb f.price most_price y.price-most in
    rw (a, b, d, e, q, s, p, k, t, y.side-one, some, sum, of, most, dearest)
    (full-is-time f.time y.time-time)

pub slot-lawful : (f : Fill) → Sound f → slot_lawful (slot_of (body_of f)) ≡ true
unfolding slot_lawful
slot-lawful f y = fill-lawful f y
