-- A piece, told from the text that it is the front of: its tag is read first, and its `|` looked for behind it.
--     front-six     the digits at its front, of which six are read
--     tag-inside, tag-end, stray-end     where its `|` stands
--     tag-step, stray-step     the step over it
use Rattle.std.specs.Prelude.{None}
use mathlib.Core.Path.{◌≡◌, refl, ap, sym, ◌∙◌}
use mathlib.Core.Logic.{⊎_elim}
use mathlib.Core.Bool.{Bool, true, false, cond, ◌&&◌, not}
use mathlib.Core.List.{List, [], ◌∷◌}
use Prim.Native.Nat.{ℕ, zero, suc, ◌+◌, ◌-◌, ◌≤◌, ◌<◌, min}
use native.Mathlib.Omega.{arith}
use lib.ListN.{length, get_or, take, drop, take-append-drop}
use lib.Seq.{get_or-take}
use lib.Dec.{eqb}
use borrow.Author.Tests.{ne_eqb, eqb-true}
use Rattle.octet.specs.Bytes.{between, until_byte}
use Rattle.octet.proofs.Cases.{le-or-lt, and_both}
use Rattle.octet.proofs.Lists.{part-rest, between-high, length_part, part-part, run-most, until-in, until-most, until-go}
use Rattle.text.specs.Decimal.{digits, digit_run, digits_taken, digits_at_front}
use Rattle.text.specs.declared.Digits.{Digits}
use Rattle.text.proofs.ReadLaws.{front-in}
use Rattle.text.proofs.Layouts.{until-past}
use Rattle.field.specs.Pieces.{tagged, tag_of}
use Rattle.field.specs.Stands.{Piece, field, piece_at, step_of}

-- a byte that is not 0 stands inside
pub stands-in : (p : List ℕ) (k b : ℕ) → get_or p k 0 ≡ b → 0 < b → k < length p
stands-in [] zero b e h = absurd (omega arith)
stands-in [] (suc k) b e h = absurd (omega arith)
stands-in (x ∷ p) zero b e h = omega arith
stands-in (x ∷ p) (suc k) b e h = omega (arith, stands-in p k b e h)

-- ---- digits are no `|`

-- of the first n bytes the run is what the whole has, or all of them
run_take : (n : ℕ) (s : List ℕ) → digit_run (take n s) ≡ min n (digit_run s)
run_take zero s = omega arith
run_take (suc n) [] = omega arith
run_take (suc n) (b ∷ s) = by (between 48 57 b) (run_take n s)
  where
    by : (t : Bool) → digit_run (take n s) ≡ min n (digit_run s) → cond t (suc (digit_run (take n s))) 0 ≡ min (suc n) (cond t (suc (digit_run s)) 0)
    by true e = omega arith
    by false e = omega arith

-- six bytes are enough to read six digits
pub front-six : (s : List ℕ) → digits_at_front 6 (take 6 s) ≡ digits_at_front 6 s
unfolding digits_at_front
front-six s =
    let e : digits_taken 6 (take 6 s) ≡ digits_taken 6 s = rw (run_take 6 s) (omega arith) in
    rw (e, part-part 0 6 0 (digits_taken 6 s) s (omega arith))

behind : (k : ℕ) (s : List ℕ) → k ≤ digit_run s → until_byte 1 s ≡ k + until_byte 1 (drop k s)
behind k s h =
    let l : length (take k s) ≡ k = length_part 0 k s (omega (arith, run-most 48 57 s)) in
    let e : until_byte 1 (take k s) ≡ length (take k s) = until-in 1 48 57 (take k s) (front-in k s h) refl in
    ap (until_byte 1) (sym (take-append-drop k s)) ∙ until-past 1 (take k s) (drop k s) e ∙ ap (λ (m : ℕ). m + until_byte 1 (drop k s)) l

no-equals : (p : List ℕ) → (get_or p (digit_run p) 0 ≡ 61 → ⊥) → tagged p ≡ false
no-equals p h = by (between 1 5 (digit_run p)) (not (eqb (get_or p 0 0) 48))
  where
    by : (x y : Bool) → x && y && eqb (get_or p (digit_run p) 0) 61 ≡ false
    by true true = ne_eqb (get_or p (digit_run p) 0) 61 h
    by true false = refl
    by false y = refl

-- the piece at the front of a text, up to its `|`
module _ (s : List ℕ) where
  abbrev piece : List ℕ
  piece = take (until_byte 1 s) s

  piece-length : length piece ≡ until_byte 1 s
  piece-length = length_part 0 (until_byte 1 s) s (omega (arith, until-most 1 s))

  run_inside : digit_run s ≤ until_byte 1 s
  run_inside = omega (arith, behind (digit_run s) s (omega arith))

  -- it has the same digits
  same-run : digit_run piece ≡ digit_run s
  same-run = run_take (until_byte 1 s) s ∙ omega (arith, run_inside)

  -- a byte that is not 0 and not `|` behind the digits is the piece's
  past-run : get_or s (digit_run s) 0 ≡ 61 → until_byte 1 s ≡ digit_run s + 1 + until_byte 1 (drop (digit_run s + 1) s)
  past-run e =
      let g = until-go 1 s (digit_run s) (stands-in s (digit_run s) 61 e (omega arith)) (λ f. omega arith) in
      omega (arith, behind (digit_run s) s (omega arith), g)

  same-tagged : tagged piece ≡ tagged s
  same-tagged =
      ⊎_elim
      (λ (h : until_byte 1 s ≤ digit_run s).
      no-equals piece (λ e. omega (arith, stands-in piece (digit_run piece) 61 e (omega arith), same-run, piece-length)) ∙ sym (no-equals s (λ e. omega (arith, past-run e))))
      (λ (h : digit_run s < until_byte 1 s).
      rw (same-run, get_or-take (until_byte 1 s) s 0 0 (omega arith), get_or-take (until_byte 1 s) s (digit_run s) 0 h))
      (le-or-lt (until_byte 1 s) (digit_run s))

  tagged-by : tagged s ≡ true → ((between 1 5 (digit_run s) ≡ true) × (not (eqb (get_or s 0 0) 48) ≡ true)) × (eqb (get_or s (digit_run s) 0) 61 ≡ true)
  tagged-by h =
      let q = and_both (between 1 5 (digit_run s) && not (eqb (get_or s 0 0) 48)) (eqb (get_or s (digit_run s) 0) 61) h in
      (and_both (between 1 5 (digit_run s)) (not (eqb (get_or s 0 0) 48)) q.0, q.1)

  tagged-few : tagged s ≡ true → digit_run s ≤ 5
  tagged-few h = between-high 1 5 (digit_run s) (tagged-by h).0.0

  tagged-equals : tagged s ≡ true → get_or s (digit_run s) 0 ≡ 61
  tagged-equals h = eqb-true _ _ (tagged-by h).1

  -- ---- by the digits that are read
  module _ (d : Digits) (e : d ≡ digits_at_front 6 s) where
    pub len_is : d.len ≡ min 6 (digit_run s)
    unfolding digits_at_front
    len_is = rw e (omega arith)

    value-is : d.value ≡ digits (take d.len s)
    unfolding digits_at_front
    value-is = rw e

    pub stray-mark : until_byte 1 s ≡ d.len + until_byte 1 (drop d.len s)
    stray-mark = behind d.len s (omega (arith, len_is))

    run_is : tagged s ≡ true → digit_run s ≡ d.len
    run_is h = omega (arith, len_is, tagged-few h)

    pub tag-mark : tagged s ≡ true → until_byte 1 s ≡ d.len + 1 + until_byte 1 (drop (d.len + 1) s)
    tag-mark h = past-run (tagged-equals h) ∙ ap (λ (k : ℕ). k + 1 + until_byte 1 (drop (k + 1) s)) (run_is h)

    same_tag : tagged s ≡ true → tag_of piece ≡ d.value
    same_tag h =
        ap (λ (k : ℕ). digits (take k piece)) (same-run ∙ run_is h)
        ∙ ap digits (part-part 0 (until_byte 1 s) 0 d.len s (omega (arith, run_inside, len_is)))
        ∙ sym value-is

    pub is_field : (at m : ℕ) → tagged s ≡ true → m ≡ until_byte 1 (drop (d.len + 1) s) → field d.value (at + (d.len + 1)) m ≡ piece_at at piece
    unfolding piece_at
    is_field at m h g =
        let l : length piece - (d.len + 1) ≡ m = omega (arith, piece-length, tag-mark h) in
        rw (same-tagged, h, same_tag h, same-run, run_is h, l)

  pub is-stray : (at : ℕ) → tagged s ≡ false → None ≡ piece_at at piece
  unfolding piece_at
  is-stray at h = rw (same-tagged, h)

-- ---- the step over the piece that begins at a place of a body, by the digits that are read of the rest and how far behind them its `|` is
abbrev rest_of : List ℕ → ℕ → List ℕ
rest_of body at = take (length body - at) (drop at body)

pub step_is : (at : ℕ) (body : List ℕ) (g : Piece) (m : ℕ) → g ≡ piece_at at (piece (rest_of body at)) → m ≡ min (at + until_byte 1 (rest_of body at) + 1) (length body)
    → record { piece = g; next = m } ≡ step_of at body
unfolding step_of
step_is at body g m e f = let r : rest_of body at ≡ drop at body = part-rest body at in rw (e, f, r)

module _ (body : List ℕ) (at : ℕ) (h : at ≤ length body) where
  abbrev rest : List ℕ
  rest = rest_of body at

  mark-in : at + until_byte 1 rest ≤ length body
  mark-in = omega (arith, until-most 1 rest, length_part at (length body - at) body (omega arith))

  module _ (d : Digits) (read : d ≡ digits_at_front 6 rest) where
    module _ (t : tagged rest ≡ true) where
      pub tag-inside : d.len + 1 ≤ length rest
      tag-inside = omega (arith, tag-mark rest d read t, until-most 1 rest)

      module _ (m : ℕ) (far : m ≡ until_byte 1 (rest_of rest (d.len + 1))) where
        tag-far : until_byte 1 rest ≡ d.len + 1 + m
        tag-far = tag-mark rest d read t ∙ rw (far, part-rest rest (d.len + 1))

        pub tag-end : at + (d.len + 1) + m ≤ length body
        tag-end = omega (arith, tag-far, mark-in)

        pub tag-step : (next : ℕ) → next ≡ min (at + (d.len + 1) + m + 1) (length body)
            → record { piece = field d.value (at + (d.len + 1)) m; next = next } ≡ step_of at body
        tag-step next e =
            step_is at body _ next (is_field rest d read at m t (far ∙ ap (until_byte 1) (part-rest rest (d.len + 1)))) (e ∙ omega (arith, tag-far))

    module _ (m : ℕ) (far : m ≡ until_byte 1 (rest_of rest d.len)) where
      stray-far : until_byte 1 rest ≡ d.len + m
      stray-far = stray-mark rest d read ∙ rw (far, part-rest rest d.len)

      pub stray-end : at + (d.len + m) ≤ length body
      stray-end = omega (arith, stray-far, mark-in)

      pub stray-step : tagged rest ≡ false → (next : ℕ) → next ≡ min (at + (d.len + m) + 1) (length body) → record { piece = None; next = next } ≡ step_of at body
      stray-step t next e = step_is at body _ next (is-stray rest at t) (e ∙ omega (arith, stray-far))
