-- Fields of an ID told by their words: three of them cover its bytes.
use mathlib.Core.Path.{◌≡◌, sym, ap, ap₂, ◌∙◌}
use mathlib.Core.List.{List, ◌++◌}
use mathlib.Core.Bool.{true}
use Prim.Native.Nat.{ℕ, ◌+◌, ◌≤◌, ◌<◌}
use native.Mathlib.Omega.{arith}
use lib.ListN.{length, get_or}
use lib.Dec.{eqb}
use borrow.Author.Tests.{eq-eqb, eqb-true}
use Rattle.octet.specs.Bytes.{same, all_in, part}
use Rattle.octet.specs.Places.{LowFirst, number_in, number_bytes, word_at}
use Rattle.octet.proofs.Cases.{bool-ext}
use Rattle.octet.proofs.Lists.{part-all, part-add, part-part, part_at, length_part, is-between, all_in-of, same_of, same_true}
use Rattle.octet.proofs.Places.{word-there, bytes_back}

-- bytes at a place
part_in : (at n : ℕ) (x : List ℕ) → at + n ≤ length x → ((i : ℕ) → get_or x i 0 < 256) → all_in 0 255 (part at n x) ≡ true
part_in at n x l h =
    all_in-of 0 255 (part at n x)
    (λ i k. (let w = length_part at n x l in is-between 0 255 (get_or (part at n x) i 0) (omega arith) (omega (arith, part_at at n i x (omega arith), h (at + i)))))

-- eight bytes are known by their word
module _ (x y : List ℕ) (hx : (i : ℕ) → get_or x i 0 < 256) (hy : (i : ℕ) → get_or y i 0 < 256) where
  word_bytes : (at : ℕ) → at + 8 ≤ length x → at + 8 ≤ length y → word_at at x ≡ word_at at y → part at 8 x ≡ part at 8 y
  word_bytes at lx ly e =
      let n : number_in LowFirst (part at 8 x) ≡ number_in LowFirst (part at 8 y) = word-there at x lx ∙ e ∙ sym (word-there at y ly) in
      let l : length (part at 8 x) ≡ length (part at 8 y) = length_part at 8 x lx ∙ sym (length_part at 8 y ly) in
      sym (bytes_back LowFirst (part at 8 x) (part_in at 8 x lx hx))
      ∙ ap₂ (λ (k v : ℕ). number_bytes LowFirst k v) l n
      ∙ bytes_back LowFirst (part at 8 y) (part_in at 8 y ly hy)

-- 21 bytes are known by three words
spread : (x : List ℕ) → length x ≡ 21 → x ≡ part 0 8 x ++ (part 8 8 x ++ part 3 5 (part 13 8 x))
spread x l =
    sym (part-all 0 21 x (omega arith))
    ∙ part-add 0 8 13 x
    ∙ ap (λ (t : List ℕ). part 0 8 x ++ t) (part-add 8 8 5 x ∙ ap (λ (t : List ℕ). part 8 8 x ++ t) (sym (part-part 13 8 3 5 x (omega arith))))

pub words_same : (x y : List ℕ) → ((i : ℕ) → get_or x i 0 < 256) → ((i : ℕ) → get_or y i 0 < 256) → length x ≡ 21 → length y ≡ 21 → word_at 0 x ≡ word_at 0 y → word_at 8 x ≡ word_at 8 y
    → eqb (word_at 13 x) (word_at 13 y) ≡ same x y
words_same x y hx hy lx ly e0 e8 =
    let p = word_bytes x y hx hy 0 (omega arith) (omega arith) e0 in
    let q = word_bytes x y hx hy 8 (omega arith) (omega arith) e8 in
    bool-ext (eqb (word_at 13 x) (word_at 13 y)) (same x y)
    (λ t. (let r = word_bytes x y hx hy 13 (omega arith) (omega arith) (eqb-true (word_at 13 x) (word_at 13 y) t) in
    same_of x y
    (spread x lx
    ∙ ap₂ (λ (a b : List ℕ). a ++ (b ++ part 3 5 (part 13 8 x))) p q
    ∙ ap (λ (c : List ℕ). part 0 8 y ++ (part 8 8 y ++ part 3 5 c)) r
    ∙ sym (spread y ly))))
    (λ t. eq-eqb (word_at 13 x) (word_at 13 y) (ap (word_at 13) (same_true x y t)))
