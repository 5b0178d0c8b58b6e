-- What is written is read back: the pieces of fields that are laid out, their tags and their values.
--     whole, number-whole     fields that may be laid out
--     pieces-layout     the pieces of fields laid out are theirs, in order
--     piece-tagged, piece-tag, piece-value, piece-carries     such a piece has its field's tag and value
--     values-layout     the values of a tag are those of the fields with it
--     scan-layout     no fault is found where no value is empty
--     begins-law     a piece carries a tag exactly where it begins with the tag's digits and `=`
use mathlib.Core.Path.{◌≡◌, refl, ap, sym, ◌∙◌}
use mathlib.Core.Bool.{true, ◌&&◌, not}
use mathlib.Core.List.{List, [], ◌∷◌, ◌++◌, map, append_assoc, append-nil}
use Prim.Native.Nat.{ℕ, ◌+◌, ◌-◌, ◌*◌, ◌/◌, ◌%◌, ◌≤◌, ◌<◌}
use native.Mathlib.Omega.{arith}
use lib.ListN.{length, get_or, take, drop, take-append-drop}
use lib.Seq.{take-append_seam, length-take-le, get_or-take}
use lib.Dec.{eqb}
use borrow.Author.Tests.{eq-eqb, ne_eqb, lt-ltb, eqb-true, eqb-false, not-true}
use Rattle.octet.specs.Bytes.{bytes_of, between, same, all_in, until_byte}
use Rattle.octet.specs.Places.{value_of}
use Rattle.octet.proofs.Cases.{and_both, bool-ext}
use Rattle.octet.proofs.Lists.{is-between, between-low, between-high, run_in_lem, drop-step, same_true, same_of}
use Rattle.text.specs.Decimal.{digits, digit_run, decimal}
use Rattle.text.proofs.Decimals.{decimal-some, decimal-unmarked, decimal-small, decimal-large}
use Rattle.text.specs.Fields.{Field, ◌is◌, field_bytes, layout}
use Rattle.text.proofs.Layouts.{field-text, piece-length, tag-run, tag-some, tag-few, tag-lead, tag_back, tag-equals, tag-value, piece-unmarked}
use Rattle.field.specs.Pieces.{Pieces, pieces_of, tagged, tag_of, value_after, valued, carries, values_of, piece_scan, sound, scan_of}
use Rattle.field.specs.Written.{Each, none, also, Unmarked, Plain, Whole, piece_of, values_with}
use Rattle.field.proofs.Cuts.{pieces-mark}
use Rattle.field.proofs.Heads.{stands-in}

-- ---- each of some fields
pub each_append : {P : Field → Type 0} {fs gs : List Field} → Each P fs → Each P gs → Each P (fs ++ gs)
each_append none g = g
each_append (also h f) g = also h (each_append f g)

pub each_map : {P Q : Field → Type 0} {fs : List Field} → ((f : Field) → P f → Q f) → Each P fs → Each Q fs
each_map t none = none
each_map t (also {f} h e) = also (t f h) (each_map t e)

pub plain_of : {fs : List Field} → Each Whole fs → Each Plain fs
plain_of e = each_map (λ f w. w.plain) e

pub unmarked-of : {fs : List Field} → Each Plain fs → Each Unmarked fs
unmarked-of e = each_map (λ f p. p.unmarked) e

-- a value of at least one byte that has no `|`, and a number, under a tag of 1 to 5 digits
pub whole : (tag : ℕ) (v : List ℕ) → 1 ≤ tag → tag ≤ 99999 → (1 ≤ length v) × (until_byte 1 v ≡ length v) → Whole (tag is v)
whole tag v l h c = record { plain = record { low = l; high = h; unmarked = c.1 }; some = c.0 }

pub number-whole : (tag n : ℕ) → 1 ≤ tag → tag ≤ 99999 → Whole (tag is decimal n)
number-whole tag n l h = whole tag (decimal n) l h (decimal-some n, decimal-unmarked n)

-- ---- one piece
module _ (tag : ℕ) (v : List ℕ) (low : 1 ≤ tag) (high : tag ≤ 99999) where
  head-tagged : tagged (piece_of (tag is v)) ≡ true
  head-tagged =
      let p = piece_of (tag is v) in
      rw (
        is-between 1 5 (digit_run p) (tag-some tag v) (tag-few tag v 4 (omega arith)),
        ne_eqb (get_or p 0 0) 48 (λ z. omega (arith, tag-lead tag v low)),
        eq-eqb (get_or p (digit_run p) 0) 61 (tag-equals tag v),
      )

  head-carries : (u : ℕ) → carries u (piece_of (tag is v)) ≡ eqb tag u
  unfolding carries
  head-carries u = rw (head-tagged, tag_back tag v)

module _ (f : Field) (h : Plain f) where
  pub piece-tagged : tagged (piece_of f) ≡ true
  piece-tagged = head-tagged f.tag f.value h.low h.high

  pub piece-tag : tag_of (piece_of f) ≡ f.tag
  piece-tag = tag_back f.tag f.value

  pub piece-value : value_after (piece_of f) ≡ f.value
  piece-value = tag-value f.tag f.value

  pub piece-carries : (tag : ℕ) → carries tag (piece_of f) ≡ eqb f.tag tag
  piece-carries tag = head-carries f.tag f.value h.low h.high tag

  pub piece-valued : 1 ≤ length f.value → valued (piece_of f) ≡ true
  piece-valued g = lt-ltb (digit_run (piece_of f) + 1) (length (piece_of f)) (omega (arith, piece-length f.tag f.value, tag-run f.tag f.value))

  pub piece-sound : 1 ≤ length f.value → piece_scan (piece_of f) ≡ sound
  unfolding piece_scan
  piece-sound g = rw (piece-tagged, piece-valued g)

-- ---- fields laid out, one after another
pub pieces-field : (f : Field) (rest : List ℕ) → Unmarked f → pieces_of (field_bytes f ++ rest) ≡ piece_of f ∷ pieces_of rest
pieces-field f rest h =
    ap (λ (l : List ℕ). pieces_of (l ++ rest)) (field-text f.tag f.value)
    ∙ ap pieces_of (append_assoc (piece_of f) (1 ∷ []) rest)
    ∙ pieces-mark (piece_of f) rest (piece-unmarked f.tag f.value h)

pub pieces-layout : {fs : List Field} → Each Unmarked fs → pieces_of (layout fs) ≡ map piece_of fs
unfolding pieces_of
pieces-layout none = refl
pieces-layout {fs = f ∷ fs} (also h e) = pieces-field f (layout fs) h ∙ ap (λ (ps : Pieces). piece_of f ∷ ps) (pieces-layout e)

values-pieces : (tag : ℕ) {fs : List Field} → Each Plain fs → values_of tag (map piece_of fs) ≡ values_with tag fs
unfolding values_of
values-pieces tag none = refl
values-pieces tag (also {f} h e) = rw (piece-carries f h tag, piece-value f h, values-pieces tag e)

pub values-layout : (tag : ℕ) {fs : List Field} → Each Plain fs → values_of tag (pieces_of (layout fs)) ≡ values_with tag fs
values-layout tag e = ap (values_of tag) (pieces-layout (unmarked-of e)) ∙ values-pieces tag e

scan-pieces : {fs : List Field} → Each Whole fs → scan_of (map piece_of fs) ≡ sound
unfolding scan_of
scan-pieces none = refl
scan-pieces (also {f} h e) = rw (piece-sound f h.plain h.some, scan-pieces e)

pub scan-layout : {fs : List Field} → Each Whole fs → scan_of (pieces_of (layout fs)) ≡ sound
scan-layout e = ap scan_of (pieces-layout (unmarked-of (plain_of e))) ∙ scan-pieces e

-- ---- a piece carries a tag exactly where it begins with the tag's digits and `=`

-- digits after others that write a number other than 0
digits-after : (v : ℕ) (s : List ℕ) → 1 ≤ v → all_in 48 57 s ≡ true → decimal (value_of 10 48 v s) ≡ decimal v ++ s
digits-after v [] h e = sym (append-nil (decimal v))
digits-after v (b ∷ s) h e =
    let q = and_both (between 48 57 b) (all_in 48 57 s) e in
    let l = between-low 48 57 b q.0 in
    let u = between-high 48 57 b q.0 in
    let w = v * 10 + (b - 48) in
    let d : w / 10 ≡ v = omega arith in
    let m : 48 + w % 10 ≡ b = omega arith in
    digits-after w s (omega arith) q.1
    ∙ ap (λ (t : List ℕ). t ++ s) (decimal-large w (omega arith) ∙ ap (λ (n : ℕ). decimal n ++ (48 + w % 10) ∷ []) d ∙ ap (λ (n : ℕ). decimal v ++ n ∷ []) m)
    ∙ append_assoc (decimal v) (b ∷ []) s

-- digits of which the first is not 0 are the decimal of their number
pub decimal-of : (s : List ℕ) → all_in 48 57 s ≡ true → 1 ≤ length s → (get_or s 0 0 ≡ 48 → ⊥) → decimal (digits s) ≡ s
decimal-of [] e l z = absurd (omega arith)
decimal-of (b ∷ s) e l z =
    let q = and_both (between 48 57 b) (all_in 48 57 s) e in
    let g = between-low 48 57 b q.0 in
    let u = between-high 48 57 b q.0 in
    let w = 0 * 10 + (b - 48) in
    let lead : 49 ≤ b = omega (arith, z) in
    let m : 48 + w % 10 ≡ b = omega arith in
    digits-after w s (omega arith) q.1 ∙ ap (λ (t : List ℕ). t ++ s) (decimal-small w (omega arith) ∙ ap (λ (n : ℕ). n ∷ []) m)

-- the tag's digits and `=`
abbrev pub head_of : ℕ → List ℕ
head_of tag = decimal tag ++ bytes_of "="

pub carries-begins : (tag : ℕ) (p : List ℕ) → carries tag p ≡ true → p ≡ head_of tag ++ value_after p
unfolding carries
carries-begins tag p e =
    let r = digit_run p in
    let t = and_both (tagged p) (eqb (tag_of p) tag) e in
    let u = and_both (between 1 5 r && not (eqb (get_or p 0 0) 48)) (eqb (get_or p r 0) 61) t.0 in
    let w = and_both (between 1 5 r) (not (eqb (get_or p 0 0) 48)) u.0 in
    let equals : get_or p r 0 ≡ 61 = eqb-true (get_or p r 0) 61 u.1 in
    let lead = eqb-false (get_or p 0 0) 48 (not-true (eqb (get_or p 0 0) 48) w.1) in
    let some : 1 ≤ r = between-low 1 5 r w.0 in
    let inside : r < length p = stands-in p r 61 equals (omega arith) in
    let front : take r p ≡ decimal tag =
    sym (decimal-of (take r p) (run_in_lem 48 57 p) (omega (arith, length-take-le r p (omega arith))) (λ z. lead (sym (get_or-take r p 0 0 some) ∙ z)))
    ∙ ap decimal (eqb-true (tag_of p) tag t.1) in
    sym (take-append-drop r p)
    ∙ ap (λ (l : List ℕ). l ++ drop r p) front
    ∙ ap (λ (l : List ℕ). decimal tag ++ l) (drop-step p r inside ∙ ap (λ (b : ℕ). b ∷ value_after p) equals)
    ∙ sym (append_assoc (decimal tag) (bytes_of "=") (value_after p))

pub begins-law : (tag : ℕ) (p : List ℕ) → 1 ≤ tag → tag ≤ 99999 → carries tag p ≡ same (take (length (head_of tag)) p) (head_of tag)
begins-law tag p low high =
    bool-ext (carries tag p) (same (take (length (head_of tag)) p) (head_of tag))
    (λ e. same_of _ _ (ap (take (length (head_of tag))) (carries-begins tag p e) ∙ take-append_seam (head_of tag) (value_after p)))
    (λ e. (let v = drop (length (head_of tag)) p in
    let q = same_true (take (length (head_of tag)) p) (head_of tag) e in
    ap (carries tag) (sym (take-append-drop (length (head_of tag)) p) ∙ ap (λ (l : List ℕ). l ++ v) q ∙ append_assoc (decimal tag) (bytes_of "=") v)
    ∙ head-carries tag v low high tag ∙ eq-eqb tag tag refl))
