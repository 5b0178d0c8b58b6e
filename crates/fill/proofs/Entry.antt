-- A slot that is made of an entry: how long it is, that it reads back field by field, that it is lawful, and when two have the same key, or are the same.
--     entry-size     the widths of its parts make a slot
--     entry-made     it is made of the entry's parts (Made.antt)
--     entry_length     it has slot_width bytes, whatever the entry
--     entry-marked, entry-no-fill     what its first byte says
--     trade-back, number-back, .. entry-time-back     what is written reads back
--     entry-lawful, booked-lawful     the slot of an entry whose values a Trade Cancel/Correct can have is lawful
--     key-same, same_key     two slots have the same key exactly where TradeID, CorrectionNum, Side and ExecTransType are the same
--     contents-same, same-contents     two slots are the same exactly where all of the two entries is
use mathlib.Core.Path.{◌≡◌, refl, sym, ap, ap₂, ◌∙◌}
use mathlib.Core.List.{List, [], ◌∷◌, ◌++◌, append_assoc, append-nil}
use mathlib.Core.Logic.{◌⊎◌}
use mathlib.Core.Bool.{true, false}
use Prim.Native.Nat.{ℕ, ◌+◌, ◌-◌, ◌≤◌, ◌<◌, ◌^◌}
use native.Mathlib.Omega.{arith}
use lib.ListN.{length, get_or, take, drop, set, replicate, replicate-append-replicate, length-take}
use lib.Seq.{take_at, take-take, get_or-append_seam}
use borrow.Author.Tests.{le-leb}
use Rattle.octet.specs.Bytes.{between, all_in, part, same, sum_of}
use Rattle.octet.specs.Places.{high, big_endian}
use Rattle.octet.specs.Splice.{splice}
use Rattle.octet.specs.Padded.{padded, text_of}
use Rattle.octet.proofs.Lists.{between-high, part-add, part_at, part-part, same_true, same_of}
use Rattle.value.specs.Value.{is_time}
use Rattle.value.proofs.Times.{time-is}
use Rattle.parts.specs.Parts.{Part, Text, Number, Raw, Value, Bytes, Count, text_field, laid}
use Rattle.parts.specs.Relaid.{filled}
use Rattle.parts.proofs.Relaying.{filled-length, filled-short, filled-by}
use Rattle.parts.proofs.ReadBack.{AllSized, written}
use Rattle.answer.specs.Numbers.{nine_digits, most_contracts}
use Rattle.fill.specs.Slot.{Slot, entry_mark, body_width, slot_width, is_fill, is_entry, full_time, most_price}
use Rattle.fill.specs.Entry.{
  Entry,
  entry_parts,
  entry_widths,
  entry_width_of,
  entry_values,
  entry_body,
  entry_slot,
  entry_place_of,
  entry_field,
  time_width,
  trade_of,
  number_of,
  entry_side_of,
  transaction_of,
  correction_of,
  original_of,
  entry_shares_of,
  entry_price_of,
  entry_time_of,
  key_width,
  key_of,
  longest_original,
  entry_lawful,
}
use Rattle.fill.specs.Booked.{slot_lawful}
use Rattle.fill.proofs.Made.{Made, made-length, part-is, text-is, text-back, high-back, text-lawful, made-rest, byte_put, time-whole, full-is-time}

pub entry-size : sum_of entry_widths ≡ body_width
entry-size = refl

parts-sized : AllSized entry_parts
parts-sized = (omega arith, (tt, (tt, (tt, (tt, (omega arith, (tt, (tt, (tt, tt)))))))))

-- a time with the zero after it
zero-last : (k : ℕ) → replicate {A = ℕ} (k + 1) 0 ≡ replicate k 0 ++ 0 ∷ []
zero-last k = sym (replicate-append-replicate k 1 0)

zero_more : (y : List ℕ) → length y ≤ time_width → filled 22 y ≡ (y ++ replicate (time_width - length y) 0) ++ 0 ∷ []
zero_more y h =
    let e : 22 - length y ≡ time_width - length y + 1 = omega arith in
    filled-short 22 y (omega arith)
    ∙ ap (λ (k : ℕ). y ++ replicate k 0) e
    ∙ ap (λ (z : List ℕ). y ++ z) (zero-last (time_width - length y))
    ∙ sym (append_assoc y (replicate (time_width - length y) 0) (0 ∷ []))

zero-after : (x : List ℕ) → filled 22 (take time_width x) ≡ filled time_width x ++ 0 ∷ []
zero-after x =
    zero_more (take time_width x) (omega (arith, length-take time_width x)) ∙ ap (λ (z : List ℕ). z ++ 0 ∷ []) (filled-by time_width x)

module _ (e : Entry) where
  abbrev made : List ℕ
  made = entry_slot e

  pub entry-made : Made entry_mark entry_parts (entry_values e) made
  unfolding entry_body
  entry-made = record { sized = parts-sized; laid_so = refl }

  pub entry_length : length made ≡ slot_width
  entry_length = made-length entry-made

  pub entry-marked : is_entry made ≡ true
  entry-marked = refl

  pub entry-no-fill : is_fill made ≡ false
  entry-no-fill = refl

  pub trade-back : length e.trade ≤ 20 → text_of (trade_of made) ≡ e.trade
  trade-back h = text-back entry-made 0 (entry_width_of 0) e.trade refl (omega arith)

  pub number-back : e.number < 256 ^ 4 → number_of made ≡ e.number
  number-back h = high-back entry-made 1 (entry_width_of 1) e.number refl h

  pub entry-side-back : e.side < 256 → entry_side_of made ≡ e.side
  entry-side-back h = high-back entry-made 2 (entry_width_of 2) e.side refl h

  pub transaction-back : e.transaction < 256 → transaction_of made ≡ e.transaction
  transaction-back h = high-back entry-made 3 (entry_width_of 3) e.transaction refl h

  pub correction-back : e.correction < 256 → correction_of made ≡ e.correction
  correction-back h = high-back entry-made 4 (entry_width_of 4) e.correction refl h

  pub original-back : length e.exec ≤ 30 → text_of (original_of made) ≡ e.exec
  original-back h = text-back entry-made 5 (entry_width_of 5) e.exec refl (omega arith)

  pub entry-shares-back : e.shares < 256 ^ 4 → entry_shares_of made ≡ e.shares
  entry-shares-back h = high-back entry-made 6 (entry_width_of 6) e.shares refl h

  pub entry-price-back : e.price < 256 ^ 8 → entry_price_of made ≡ e.price
  entry-price-back h = high-back entry-made 7 (entry_width_of 7) e.price refl h

  last-is : entry_field 8 made ≡ filled time_width (full_time e.time) ++ 0 ∷ []
  last-is = part-is entry-made 8 ∙ zero-after (full_time e.time)

  -- the byte after the time
  pub entry-normal : get_or made (slot_width - 1) 0 ≡ 0
  entry-normal =
      let x = filled time_width (full_time e.time) in
      sym (part_at (entry_place_of 8) 22 time_width made (omega arith))
      ∙ ap (λ (l : List ℕ). get_or l time_width 0) last-is
      ∙ ap (λ (n : ℕ). get_or (x ++ 0 ∷ []) n 0) (sym (filled-length time_width (full_time e.time)))
      ∙ get_or-append_seam x 0 [] 0

  pub entry-time-back : (length e.time ≡ 17) ⊎ (length e.time ≡ 21) → entry_time_of made ≡ full_time e.time
  entry-time-back h =
      let x = full_time e.time in
      sym (take-take time_width 22 (drop (entry_place_of 8) made) (omega arith))
      ∙ ap (take time_width) last-is
      ∙ take_at (filled time_width x) (0 ∷ []) time_width (filled-length time_width x)
      ∙ time-whole e.time h

-- ---- made part by part

-- the parts as they are written: the zero after the time stands there already
abbrev put_parts : List Part
put_parts = Text 21 ∷ Number 4 ∷ Number 1 ∷ Number 1 ∷ Number 1 ∷ Text 31 ∷ Number 4 ∷ Number 8 ∷ Raw time_width ∷ []

abbrev put_values : Entry → List Value
put_values e =
    Bytes e.trade ∷ Count e.number ∷ Count e.side ∷ Count e.transaction ∷ Count e.correction ∷ Bytes e.exec ∷ Count e.shares ∷ Count e.price
    ∷ Bytes (full_time e.time) ∷ []

-- the parts up to the time, and any bytes for it
abbrev up_to : Entry → List ℕ → List ℕ
up_to e l =
    text_field 21 e.trade ++ (high 4 e.number ++ (high 1 e.side ++ (high 1 e.transaction ++ (high 1 e.correction
    ++ (text_field 31 e.exec ++ (high 4 e.shares ++ (high 8 e.price ++ l)))))))

made-slot : (e : Entry) → written (entry_mark ∷ replicate body_width 0) 1 put_parts (put_values e) ≡ entry_slot e
unfolding entry_body laid
made-slot e =
    let x = full_time e.time in
    let sized : AllSized put_parts = (omega arith, (tt, (tt, (tt, (tt, (omega arith, (tt, (tt, (tt, tt))))))))) in
    let last : filled time_width x ++ 0 ∷ [] ≡ filled 22 (take time_width x) ++ [] = sym (zero-after x) ∙ sym (append-nil (filled 22 (take time_width x))) in
    made-rest entry_mark put_parts (put_values e) (replicate body_width 0) sized (omega arith)
    ∙ simp append_assoc (ap (λ (l : List ℕ). entry_mark ∷ up_to e l) last)

-- the mark and the nine parts, one after another
pub entry-put : (e : Entry) (a b d f g h i j k : List ℕ) → e.side < 256 → e.transaction < 256 → e.correction < 256
    → a ≡ splice (entry_mark ∷ replicate body_width 0) (entry_place_of 0) (text_field (entry_width_of 0) e.trade)
    → b ≡ splice a (entry_place_of 1) (high (entry_width_of 1) e.number)
    → d ≡ set b (entry_place_of 2) e.side → f ≡ set d (entry_place_of 3) e.transaction → g ≡ set f (entry_place_of 4) e.correction
    → h ≡ splice g (entry_place_of 5) (text_field (entry_width_of 5) e.exec) → i ≡ splice h (entry_place_of 6) (high (entry_width_of 6) e.shares)
    → j ≡ splice i (entry_place_of 7) (high (entry_width_of 7) e.price)
    → k ≡ splice j (entry_place_of 8) (filled time_width (full_time e.time)) → k ≡ entry_slot e
entry-put e a b d f g h i j k ms mt mc ea eb ed ef eg eh ei ej ek =
    let es = byte_put b (entry_place_of 2) e.side ms in
    let et = byte_put d (entry_place_of 3) e.transaction mt in
    let ec = byte_put f (entry_place_of 4) e.correction mc in
    cc (made-slot e)

-- ---- lawful

-- what a Trade Cancel/Correct that passed the table can say
pub record SoundEntry (e : Entry) : Type 0 where
  pub trade-some : 1 ≤ length e.trade
  pub trade-short : length e.trade ≤ 20
  pub trade-graph : all_in 33 126 e.trade ≡ true
  pub number-most : e.number ≤ nine_digits
  pub side-one : between 1 2 e.side ≡ true
  pub transaction-most : e.transaction ≤ 2
  pub correction-one : between 1 5 e.correction ≡ true
  pub exec-some : 1 ≤ length e.exec
  pub exec-short : length e.exec ≤ longest_original
  pub exec-graph : all_in 33 126 e.exec ≡ true
  pub shares-some : 1 ≤ e.shares
  pub shares-most : e.shares ≤ most_contracts
  pub price-most : e.price ≤ most_price
  pub time-time : is_time e.time ≡ true

-- the length byte of the trade that it changes
original-first : (e : Entry) → length e.exec ≤ 30 → get_or (original_of (entry_slot e)) 0 0 ≡ length e.exec
unfolding padded
original-first e h = ap (λ (l : List ℕ). get_or l 0 0) (text-is (entry-made e) 5 (entry_width_of 5) e.exec refl (omega arith))

pub entry-lawful : (e : Entry) → SoundEntry e → entry_lawful (entry_slot e) ≡ true
unfolding entry_lawful
entry-lawful e y =
    let m = entry-made e in
    let short = y.exec-short in
    let a = text-lawful m 0 (entry_width_of 0) e.trade refl y.trade-some (omega arith) (omega arith) y.trade-graph in
    let b = text-lawful m 5 (entry_width_of 5) e.exec refl y.exec-some (omega arith) (omega arith) y.exec-graph in
    let first = original-first e (omega arith) in
    let side-most = between-high 1 2 e.side y.side-one in
    let correction-most = between-high 1 5 e.correction y.correction-one in
    let n = number-back e (omega arith) in
    let s = entry-side-back e (omega arith) in
    let x = transaction-back e (omega arith) in
    let c = correction-back e (omega arith) in
    let q = entry-shares-back e (omega arith) in
    let p = entry-price-back e (omega arith) in
    let t = entry-time-back e (time-is e.time y.time-time).lengths in
    let fits = le-leb (length e.exec) longest_original short in
    let digits = le-leb e.number nine_digits y.number-most in
    let kinds = le-leb e.transaction 2 y.transaction-most in
    let some = le-leb 1 e.shares y.shares-some in
    let most = le-leb e.shares most_contracts y.shares-most in
    let dearest = le-leb e.price most_price y.price-most in
    rw (a, b, first, n, s, x, c, q, p, t, fits, digits, y.side-one, kinds, y.correction-one, some, most, dearest)
    (full-is-time e.time y.time-time)

pub booked-lawful : (e : Entry) → SoundEntry e → slot_lawful (entry_slot e) ≡ true
unfolding slot_lawful
booked-lawful e y = entry-lawful e y

-- ---- the key, and all of it

-- "TradeID, CorrectionNum, Side and ExecTransType together"
pub record SameKey (a b : Entry) : Type 0 where
  pub trade : a.trade ≡ b.trade
  pub number : a.number ≡ b.number
  pub side : a.side ≡ b.side
  pub transaction : a.transaction ≡ b.transaction

-- a key that its parts hold whole
pub record KeyFits (e : Entry) : Type 0 where
  pub trade : length e.trade ≤ 20
  pub number : e.number < 256 ^ 4
  pub side : e.side < 256
  pub transaction : e.transaction < 256

pub key_fits : (e : Entry) → SoundEntry e → KeyFits e
key_fits e y =
    let m = between-high 1 2 e.side y.side-one in
    let n = y.number-most in
    let t = y.transaction-most in
    record { trade = y.trade-short; number = omega arith; side = omega arith; transaction = omega arith }

-- the key's parts, one after another
key-laid : (e : Entry) → key_of (entry_slot e) ≡ text_field 21 e.trade ++ high 4 e.number ++ high 1 e.side ++ high 1 e.transaction
key-laid e =
    let s = entry_slot e in
    let m = entry-made e in
    let two : part 1 25 s ≡ text_field 21 e.trade ++ high 4 e.number = part-add 1 21 4 s ∙ ap₂ (λ (x y : List ℕ). x ++ y) (part-is m 0) (part-is m 1) in
    let three = part-add 1 25 1 s ∙ ap₂ (λ (x y : List ℕ). x ++ y) two (part-is m 2) in
    part-add 1 26 1 s ∙ ap₂ (λ (x y : List ℕ). x ++ y) three (part-is m 3)

-- a part that stands within the key
in-key : (s : Slot) (i : ℕ) → sum_of (take i entry_widths) + entry_width_of i ≤ key_width → entry_field i s ≡ part (sum_of (take i entry_widths)) (entry_width_of i) (key_of s)
in-key s i h = sym (part-part 1 key_width (sum_of (take i entry_widths)) (entry_width_of i) s h)

pub key-parts : (s t : Slot) → key_of s ≡ key_of t → (i : ℕ) → sum_of (take i entry_widths) + entry_width_of i ≤ key_width → entry_field i s ≡ entry_field i t
key-parts s t e i h = in-key s i h ∙ ap (part (sum_of (take i entry_widths)) (entry_width_of i)) e ∙ sym (in-key t i h)

-- the key and what an entry keeps beside it; of the time what the slot keeps
pub record SameEntry (a b : Entry) : Type 0 where
  pub key : SameKey a b
  pub correction : a.correction ≡ b.correction
  pub exec : a.exec ≡ b.exec
  pub shares : a.shares ≡ b.shares
  pub price : a.price ≡ b.price
  pub time : full_time a.time ≡ full_time b.time

module _ (a b : Entry) where
  pub key-same : KeyFits a → KeyFits b → same (key_of (entry_slot a)) (key_of (entry_slot b)) ≡ true → SameKey a b
  key-same p q e =
      let k = key-parts (entry_slot a) (entry_slot b) (same_true _ _ e) in
      record {
        trade = sym (trade-back a p.trade) ∙ ap text_of (k 0 (omega arith)) ∙ trade-back b q.trade;
        number = sym (number-back a p.number) ∙ ap big_endian (k 1 (omega arith)) ∙ number-back b q.number;
        side = sym (entry-side-back a p.side) ∙ ap big_endian (k 2 (omega arith)) ∙ entry-side-back b q.side;
        transaction = sym (transaction-back a p.transaction) ∙ ap big_endian (k 3 (omega arith)) ∙ transaction-back b q.transaction;
      }

  pub same_key : SameKey a b → same (key_of (entry_slot a)) (key_of (entry_slot b)) ≡ true
  same_key k =
      let t = k.trade in
      let n = k.number in
      let s = k.side in
      let x = k.transaction in
      let all : text_field 21 a.trade ++ high 4 a.number ++ high 1 a.side ++ high 1 a.transaction
      ≡ text_field 21 b.trade ++ high 4 b.number ++ high 1 b.side ++ high 1 b.transaction = cc in
      same_of _ _ (key-laid a ∙ all ∙ sym (key-laid b))

  pub contents-same : SoundEntry a → SoundEntry b → same (entry_slot a) (entry_slot b) ≡ true → SameEntry a b
  contents-same y z e =
      let s : entry_slot a ≡ entry_slot b = same_true _ _ e in
      let k : same (key_of (entry_slot a)) (key_of (entry_slot b)) ≡ true = same_of _ _ (ap key_of s) in
      let ka = between-high 1 5 a.correction y.correction-one in
      let kb = between-high 1 5 b.correction z.correction-one in
      let qa = y.shares-most in
      let qb = z.shares-most in
      let pa = y.price-most in
      let pb = z.price-most in
      let xa = y.exec-short in
      let xb = z.exec-short in
      record {
        key = key-same (key_fits a y) (key_fits b z) k;
        correction = sym (correction-back a (omega arith)) ∙ ap correction_of s ∙ correction-back b (omega arith);
        exec = sym (original-back a (omega arith)) ∙ ap (λ (l : Slot). text_of (original_of l)) s ∙ original-back b (omega arith);
        shares = sym (entry-shares-back a (omega arith)) ∙ ap entry_shares_of s ∙ entry-shares-back b (omega arith);
        price = sym (entry-price-back a (omega arith)) ∙ ap entry_price_of s ∙ entry-price-back b (omega arith);
        time = sym (entry-time-back a (time-is a.time y.time-time).lengths) ∙ ap entry_time_of s ∙ entry-time-back b (time-is b.time z.time-time).lengths;
      }

  pub same-contents : SameEntry a b → same (entry_slot a) (entry_slot b) ≡ true
  unfolding entry_body
  same-contents k =
      let t = k.key.trade in
      let n = k.key.number in
      let s = k.key.side in
      let x = k.key.transaction in
      let c = k.correction in
      let o = k.exec in
      let q = k.shares in
      let p = k.price in
      let w = k.time in
      let all : entry_values a ≡ entry_values b = cc in
      same_of _ _ (ap (λ (vs : List Value). entry_mark ∷ laid entry_parts vs) all)
