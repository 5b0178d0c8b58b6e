-- The cells of a region, over their width w.
--     cell-within, cell-next     places
--     cells-length     there are as many as are counted
--     cells-next     what is left of n cells after i of them: one more, and the rest
--     cells-drop, cells-nth     the cells from i on, and the i-th
--     cells-step, cells-end     the same as a loop reads them, through cell_at
--     cells-append, cells-set     a cell written after the last is one cell more, and one written at a place is set there
--     cells-joined     a region that begins with cells, one after another, has those cells
--     cells-wide, joined-cells     a region that has them whole: each has the width, and joined they are its front
--     cells-inside     past the end of the region cells are of no bytes
use mathlib.Core.Path.{◌≡◌, refl, sym, ap, ap₂, ◌∙◌}
use mathlib.Core.List.{List, [], ◌∷◌, ◌++◌, append_assoc}
use mathlib.Core.Logic.{⊎_elim}
use Prim.Native.Nat.{ℕ, zero, suc, ◌+◌, ◌-◌, ◌*◌, ◌≤◌, ◌<◌, min}
use native.Mathlib.Nat.{zero-mul, suc-mul, add-mul, one-mul, add_comm, mul-le-mul_right, sub-zero, zero-sub, suc-sub-suc, sub-eq-zero_of_le, le_refl}
use native.Mathlib.Numerals.{add-one}
use native.Mathlib.Omega.{arith}
use lib.ListN.{length, take, drop, get_or, set, length-append}
use lib.Seq.{take-add, drop-drop, take-take, take_at, drop_at, take_all, take-length, set-append_seam}
use Rattle.octet.specs.Bytes.{part, joined}
use Rattle.octet.specs.Splice.{splice}
use Rattle.octet.proofs.Cases.{le-or-lt}
use Rattle.octet.proofs.Lists.{drop-take, splice-read, splice-before, splice-after}
use Rattle.book.specs.Memory.{cells, cell_at}

module _ (w : ℕ) where
  -- ---- places
  pub cell-next : (i : ℕ) → i * w + w ≡ (i + 1) * w
  cell-next i = sym (add-mul i 1 w ∙ ap (λ (k : ℕ). i * w + k) (one-mul w))

  cell-first : (i : ℕ) → w + i * w ≡ suc i * w
  cell-first i = add_comm w (i * w) ∙ sym (suc-mul i w)

  -- the cell at i lies within n of them
  pub cell-within : (n i : ℕ) → i < n → i * w + w ≤ n * w
  cell-within n i h = let a : (i + 1) * w ≤ n * w = mul-le-mul_right w (omega arith) in omega (arith, cell-next i)

  less_one : (n : ℕ) → suc n * w - w ≡ n * w
  less_one n = omega (arith, suc-mul n w)

  -- ---- as they are read
  pub cells-length : (n : ℕ) (m : List ℕ) → length (cells w n m) ≡ n
  unfolding cells
  cells-length zero m = refl
  cells-length (suc n) m = ap suc (cells-length n (drop w m))

  pub cells-none : (m : List ℕ) → cells w 0 m ≡ []
  unfolding cells
  cells-none m = refl

  cells-cons : (n : ℕ) (m : List ℕ) → cells w (suc n) m ≡ take w m ∷ cells w n (drop w m)
  unfolding cells
  cells-cons n m = refl

  -- what is left of n cells after i of them
  pub cells-next : (n i : ℕ) (m : List ℕ) → i < n → cells w (n - i) (drop (i * w) m) ≡ cell_at w i m ∷ cells w (n - (i + 1)) (drop ((i + 1) * w) m)
  cells-next n i m h =
      let e : n - i ≡ suc (n - (i + 1)) = omega arith in
      ap (λ (k : ℕ). cells w k (drop (i * w) m)) e
      ∙ cells-cons (n - (i + 1)) (drop (i * w) m)
      ∙ ap (λ (l : List ℕ). cell_at w i m ∷ cells w (n - (i + 1)) l) (drop-drop w (i * w) m ∙ ap (λ (k : ℕ). drop k m) (cell-next i))

  pub cells-first : (n : ℕ) (m : List ℕ) → cells w n m ≡ cells w (n - 0) (drop (0 * w) m)
  cells-first n m = ap₂ (λ (k j : ℕ). cells w k (drop j m)) (sym (sub-zero n)) (sym (zero-mul w))

  pub cells-last : (n i : ℕ) (m : List ℕ) → n ≤ i → cells w (n - i) m ≡ []
  cells-last n i m h = ap (λ (k : ℕ). cells w k m) (sub-eq-zero_of_le h) ∙ cells-none m

  -- the cells from i on, and the i-th
  pub cells-drop : (n i : ℕ) (m : List ℕ) → drop i (cells w n m) ≡ cells w (n - i) (drop (i * w) m)
  unfolding cells
  cells-drop n zero m = cells-first n m
  cells-drop zero (suc i) m = ap (λ (k : ℕ). cells w k (drop (suc i * w) m)) (sym (zero-sub (suc i)))
  cells-drop (suc n) (suc i) m =
      cells-drop n i (drop w m) ∙ ap₂ (λ (j : ℕ) (l : List ℕ). cells w j l) (sym (suc-sub-suc n i)) (drop-drop (i * w) w m ∙ ap (λ (k : ℕ). drop k m) (cell-first i))

  pub cells-nth : (n i : ℕ) (m : List ℕ) → i < n → get_or (cells w n m) i [] ≡ cell_at w i m
  unfolding cells
  cells-nth zero i m h = absurd (omega arith)
  cells-nth (suc n) zero m h = ap (λ (k : ℕ). take w (drop k m)) (sym (zero-mul w))
  cells-nth (suc n) (suc i) m h =
      cells-nth n i (drop w m) (omega arith) ∙ ap (take w) (drop-drop (i * w) w m ∙ ap (λ (k : ℕ). drop k m) (cell-first i))

  -- one by one
  module _ (n i : ℕ) (m : List ℕ) where
    pub cells-step : i < n → drop i (cells w n m) ≡ cell_at w i m ∷ drop (i + 1) (cells w n m)
    cells-step h = cells-drop n i m ∙ cells-next n i m h ∙ ap (λ (l : List (List ℕ)). cell_at w i m ∷ l) (sym (cells-drop n (i + 1) m))

    pub cells-end : n ≤ i → drop i (cells w n m) ≡ []
    cells-end h = cells-drop n i m ∙ cells-last n i (drop (i * w) m) h

  -- ---- one cell more at the end
  cells-suc : (n : ℕ) (m : List ℕ) → cells w (suc n) m ≡ cells w n m ++ (cell_at w n m ∷ [])
  unfolding cells
  cells-suc zero m = ap (λ (k : ℕ). take w (drop k m) ∷ []) (sym (zero-mul w))
  cells-suc (suc n) m =
      ap (λ (l : List (List ℕ)). take w m ∷ l)
      (cells-suc n (drop w m) ∙ ap (λ (l : List ℕ). cells w n (drop w m) ++ (take w l ∷ [])) (drop-drop (n * w) w m ∙ ap (λ (k : ℕ). drop k m) (cell-first n)))

  pub cells-snoc : (n : ℕ) (m : List ℕ) → cells w (n + 1) m ≡ cells w n m ++ (cell_at w n m ∷ [])
  cells-snoc n m = ap (λ (k : ℕ). cells w k m) (add-one n) ∙ cells-suc n m

  -- the cells go by their own bytes alone
  pub cells_same : (n : ℕ) (m m' : List ℕ) → take (n * w) m ≡ take (n * w) m' → cells w n m ≡ cells w n m'
  unfolding cells
  cells_same zero m m' h = refl
  cells_same (suc n) m m' h =
      let one : (l : List ℕ) → take w (take (suc n * w) l) ≡ take w l = λ l. take-take w (suc n * w) l (omega (arith, suc-mul n w)) in
      let rest : (l : List ℕ) → drop w (take (suc n * w) l) ≡ take (n * w) (drop w l) =
      λ l. drop-take w (suc n * w) l ∙ ap (λ (j : ℕ). take j (drop w l)) (less_one n) in
      let p : take w m ≡ take w m' = sym (one m) ∙ ap (take w) h ∙ one m' in
      let q = cells_same n (drop w m) (drop w m') (sym (rest m) ∙ ap (drop w) h ∙ rest m') in
      ap₂ (λ (x : List ℕ) (xs : List (List ℕ)). x ∷ xs) p q

  -- ---- a cell written
  pub cells-append : (m : List ℕ) (n : ℕ) (s : List ℕ) → length s ≡ w → n * w + w ≤ length m → cells w (n + 1) (splice m (n * w) s) ≡ cells w n m ++ (s ∷ [])
  cells-append m n s e l =
      let r : part (n * w) w (splice m (n * w) s) ≡ s = ap (λ (k : ℕ). part (n * w) k (splice m (n * w) s)) (sym e) ∙ splice-read m (n * w) s (omega arith) in
      cells-snoc n (splice m (n * w) s)
      ∙ ap₂ (λ (t : List (List ℕ)) (x : List ℕ). t ++ (x ∷ [])) (cells_same n _ _ (splice-before m (n * w) s (n * w) (le_refl (n * w)))) r

  -- n cells are the first i of them, the i-th, and the rest
  pub cells-around : (n i : ℕ) (m : List ℕ) → i < n → cells w n m ≡ cells w i m ++ (cell_at w i m ∷ cells w (n - (i + 1)) (drop ((i + 1) * w) m))
  unfolding cells
  cells-around zero i m h = absurd (omega arith)
  cells-around (suc n) zero m h =
      let e : suc n - (0 + 1) ≡ n = omega arith in
      let f : w ≡ (0 + 1) * w = omega (arith, cell-next 0, zero-mul w) in
      ap₂ (λ (x : List ℕ) (xs : List (List ℕ)). x ∷ xs)
      (ap (λ (k : ℕ). take w (drop k m)) (sym (zero-mul w)))
      (ap₂ (λ (j k : ℕ). cells w j (drop k m)) (sym e) f)
  cells-around (suc n) (suc i) m h =
      let e : n - (i + 1) ≡ suc n - (suc i + 1) = omega arith in
      let f : w + (i + 1) * w ≡ (suc i + 1) * w = cell-first (i + 1) ∙ ap (λ (k : ℕ). k * w) (omega arith) in
      ap (λ (xs : List (List ℕ)). take w m ∷ xs)
      (cells-around n i (drop w m) (omega arith)
      ∙ ap₂ (λ (x : List ℕ) (xs : List (List ℕ)). cells w i (drop w m) ++ (x ∷ xs))
      (ap (take w) (drop-drop (i * w) w m ∙ ap (λ (k : ℕ). drop k m) (cell-first i)))
      (ap₂ (λ (j : ℕ) (l : List ℕ). cells w j l) e (drop-drop ((i + 1) * w) w m ∙ ap (λ (k : ℕ). drop k m) f)))

  pub cells-set : (m : List ℕ) (n i : ℕ) (s : List ℕ) → i < n → length s ≡ w → i * w + w ≤ length m → cells w n (splice m (i * w) s) ≡ set (cells w n m) i s
  cells-set m n i s h e l =
      let m' = splice m (i * w) s in
      let r : part (i * w) w m' ≡ s = ap (λ (k : ℕ). part (i * w) k m') (sym e) ∙ splice-read m (i * w) s (omega arith) in
      let rest : drop ((i + 1) * w) m' ≡ drop ((i + 1) * w) m = splice-after m (i * w) s ((i + 1) * w) (omega (arith, cell-next i)) in
      let more : List (List ℕ) = cells w (n - (i + 1)) (drop ((i + 1) * w) m) in
      cells-around n i m' h
      ∙ ap₂ (λ (t u : List (List ℕ)). t ++ u) (cells_same i m' m (splice-before m (i * w) s (i * w) (le_refl (i * w))))
      (ap₂ (λ (x : List ℕ) (xs : List (List ℕ)). x ∷ xs) r (ap (cells w (n - (i + 1))) rest))
      ∙ sym (set-append_seam (cells w i m) (cell_at w i m) more s)
      ∙ ap₂ (λ (k : ℕ) (t : List (List ℕ)). set t k s) (cells-length i m) (sym (cells-around n i m h))

  -- ---- a region that begins with cells, one after another
  -- each has the width
  pub data Wide : List (List ℕ) → Type 0 where
    none-wide : Wide []
    more-wide : {s : List ℕ} {ss : List (List ℕ)} → length s ≡ w → Wide ss → Wide (s ∷ ss)

  pub cells-joined : (ss : List (List ℕ)) (rest : List ℕ) → Wide ss → cells w (length ss) (joined ss ++ rest) ≡ ss
  unfolding cells
  cells-joined [] rest none-wide = refl
  cells-joined (s ∷ ss) rest (more-wide h v) =
      let e = append_assoc s (joined ss) rest in
      let p : take w ((s ++ joined ss) ++ rest) ≡ s = ap (take w) e ∙ take_at s (joined ss ++ rest) w h in
      let q : drop w ((s ++ joined ss) ++ rest) ≡ joined ss ++ rest = ap (drop w) e ∙ drop_at s (joined ss ++ rest) w h in
      ap₂ (λ (x : List ℕ) (l : List ℕ). x ∷ cells w (length ss) l) p q ∙ ap (λ (t : List (List ℕ)). s ∷ t) (cells-joined ss rest v)

  pub joined_length : (ss : List (List ℕ)) → Wide ss → length (joined ss) ≡ length ss * w
  joined_length [] none-wide = sym (zero-mul w)
  joined_length (s ∷ ss) (more-wide h v) = omega (arith, length-append s (joined ss), joined_length ss v, suc-mul (length ss) w)

  -- the cells of a region, joined, are its front
  pub joined-cells : (n : ℕ) (m : List ℕ) → joined (cells w n m) ≡ take (n * w) m
  unfolding cells
  joined-cells zero m = ap (λ (k : ℕ). take k m) (sym (zero-mul w))
  joined-cells (suc n) m =
      ap (λ (l : List ℕ). take w m ++ l) (joined-cells n (drop w m)) ∙ sym (take-add w (n * w) m) ∙ ap (λ (k : ℕ). take k m) (cell-first n)

  -- past the end of the region they are of no bytes
  pub cells-inside : (m : List ℕ) (n most : ℕ) → length m ≡ most * w → take (min n most * w) m ≡ take (n * w) m
  cells-inside m n most whole =
      ⊎_elim
      (λ h. (let a : min n most ≡ n = omega arith in ap (λ (j : ℕ). take (j * w) m) a))
      (λ h. (let a : min n most ≡ most = omega arith in
      let b : most * w ≤ n * w = mul-le-mul_right w (omega arith) in
      ap (λ (j : ℕ). take (j * w) m) a ∙ ap (λ (j : ℕ). take j m) (sym whole) ∙ take-length m ∙ sym (take_all (n * w) m (omega arith))))
      (le-or-lt n most)
