-- A message that is put together as the paper says is framed at its length, whatever follows it, and its body is found in it.
--     before, message     the parts of a message, one after another
--     complete, body-found     over any opening, and any 1 to 4 digits that write the body's length
use Rattle.std.specs.Prelude.{Ok}
use mathlib.Core.Path.{◌≡◌, refl, sym, ◌∙◌}
use mathlib.Core.List.{List, ◌∷◌, ◌++◌, append_assoc}
use mathlib.Core.Bool.{true}
use Prim.Native.Nat.{ℕ, ◌+◌, ◌-◌, ◌≤◌}
use native.Mathlib.Omega.{arith}
use lib.ListN.{length, get_or, take, drop, length-append}
use lib.Seq.{take_at, drop_at, get_or-append_seam, get_or-drop, take-append_seam}
use borrow.Author.Tests.{le-ltb, lt-leb, le-leb}
use Rattle.octet.specs.Bytes.{bytes_of, all_in, agree}
use Rattle.octet.proofs.Lists.{agree-self, run-before, is-between}
use Rattle.text.specs.Decimal.{digits, digit_run, check_sum}
use Rattle.frame.specs.Finding.{body_ok, trailer_of, judge_whole, judge_length, judge_digits, judge_opening, found_by, body_by}
use Rattle.frame.specs.declared.Found.TheVariants.{Framed}

-- 1 to 4 digits that write the length of a body, and the body
pub record Parts (ds b : List ℕ) : Type 0 where
  pub only : all_in 48 57 ds ≡ true
  pub some : 1 ≤ length ds
  pub few : length ds ≤ 4
  pub value : digits ds ≡ length b
  pub low : 5 ≤ length b
  pub high : length b ≤ 4072
  pub body : body_ok b ≡ true

-- all that comes before the trailer, and the message
abbrev pub before : List ℕ → List ℕ → List ℕ → List ℕ
before o ds b = o ++ bytes_of "9=" ++ ds ++ bytes_of "|" ++ b

abbrev pub message : List ℕ → List ℕ → List ℕ → List ℕ
message o ds b = before o ds b ++ trailer_of (check_sum (before o ds b))

abbrev begin : List ℕ → List ℕ → ℕ
begin o ds = length o + 2 + length ds + 1

-- where the parts lie, whatever the tail is
module _ (o ds b tail : List ℕ) where
  length_before : length (before o ds b) ≡ begin o ds + length b
  length_before = simp length-append (omega arith)

  length-all : length (before o ds b ++ tail) ≡ begin o ds + length b + length tail
  length-all = omega (arith, length-append (before o ds b) tail, length_before)

  opened : before o ds b ++ tail ≡ (o ++ bytes_of "9=") ++ (ds ++ (1 ∷ (b ++ tail)))
  opened = simp append_assoc

  after_tag : drop (length o + 2) (before o ds b ++ tail) ≡ ds ++ (1 ∷ (b ++ tail))
  after_tag =
      rw opened (drop_at (o ++ bytes_of "9=") (ds ++ (1 ∷ (b ++ tail))) (length o + 2) (length-append o (bytes_of "9=")))

  after-length : drop (begin o ds) (before o ds b ++ tail) ≡ b ++ tail
  after-length =
      let l : length (o ++ bytes_of "9=" ++ ds ++ bytes_of "|") ≡ begin o ds = simp length-append (omega arith) in
      rw (append_assoc (o ++ bytes_of "9=" ++ ds ++ bytes_of "|") b tail) (drop_at (o ++ bytes_of "9=" ++ ds ++ bytes_of "|") (b ++ tail) (begin o ds) l)

  all-before : take (begin o ds + length b) (before o ds b ++ tail) ≡ before o ds b
  all-before = take_at (before o ds b) tail (begin o ds + length b) length_before

  after-body : drop (begin o ds + length b) (before o ds b ++ tail) ≡ tail
  after-body = drop_at (before o ds b) tail (begin o ds + length b) length_before

  mark : get_or (before o ds b ++ tail) (length o + 2 + length ds) 0 ≡ 1
  mark =
      sym (get_or-drop (length o + 2) (before o ds b ++ tail) (length ds) 0)
      ∙ rw after_tag (get_or-append_seam ds 1 (b ++ tail) 0)

  run : all_in 48 57 ds ≡ true → digit_run (drop (length o + 2) (before o ds b ++ tail)) ≡ length ds
  run h = rw after_tag (run-before 48 57 ds 1 (b ++ tail) h refl)

module _ (o ds b rest : List ℕ) (p : Parts ds b) where
  abbrev tail : List ℕ
  tail = trailer_of (check_sum (before o ds b)) ++ rest

  abbrev s : List ℕ
  s = before o ds b ++ tail

  whole-found : judge_whole (begin o ds) (length b) s ≡ Ok (begin o ds + length b + 7)
  unfolding judge_whole
  whole-found =
      let l = length-all o ds b tail in
      rw (
        le-ltb (length s) (begin o ds + length b + 7) (omega arith),
        after-length o ds b tail,
        take-append_seam b tail,
        p.body,
        all-before o ds b tail,
        after-body o ds b tail,
        agree-self (trailer_of (check_sum (before o ds b))) rest,
      )

  length_found : judge_length (begin o ds) (length b) s ≡ Ok (begin o ds + length b + 7)
  unfolding judge_length
  length_found = rw (is-between 5 4072 (length b) p.low p.high) whole-found

  digits-found : judge_digits (length o + 2) s ≡ Ok (begin o ds + length b + 7)
  unfolding judge_digits
  digits-found =
      let l = length-all o ds b tail in
      rw (
        run o ds b tail p.only,
        le-ltb 4 (length ds) p.few,
        lt-leb (length s) (length o + 2 + length ds) (omega arith),
        le-leb 1 (length ds) p.some,
        mark o ds b tail,
        after_tag o ds b tail,
        take-append_seam ds (1 ∷ (b ++ tail)),
        p.value,
      )
      length_found

  judge-found : judge_opening o s ≡ Ok (begin o ds + length b + 7)
  unfolding judge_opening
  judge-found =
      let e : agree (o ++ bytes_of "9=") s ≡ true =
      rw (opened o ds b tail) (agree-self (o ++ bytes_of "9=") (ds ++ (1 ∷ (b ++ tail)))) in
      rw e digits-found

module _ (o ds b rest : List ℕ) (p : Parts ds b) where
  all : message o ds b ++ rest ≡ before o ds b ++ (trailer_of (check_sum (before o ds b)) ++ rest)
  all = append_assoc (before o ds b) (trailer_of (check_sum (before o ds b))) rest

  size : length (message o ds b) ≡ begin o ds + length b + 7
  size = length-all o ds b (trailer_of (check_sum (before o ds b)))

  pub complete : found_by o (message o ds b ++ rest) ≡ Framed (length (message o ds b))
  unfolding found_by
  complete = rw (all, judge-found o ds b rest p, size)

  pub body-found : body_by o (length (message o ds b)) (message o ds b ++ rest) ≡ b
  unfolding body_by
  body-found =
      let t = trailer_of (check_sum (before o ds b)) ++ rest in
      let n : length (message o ds b) - 7 - begin o ds ≡ length b = omega (arith, size) in
      rw (all, run o ds b t p.only, n, after-length o ds b t) (take-append_seam b t)
