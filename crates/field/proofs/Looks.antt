-- The one law of the look-up: by its own index a body is looked at as by its pieces, at listed tags.
--     look-law, look-by     for the index that a pass leaves
--     text-listed, count-listed     at a listed tag nothing is passed over
--     first-of, missing-of     the first field of a tag, and whether there is one
use mathlib.Core.Path.{◌≡◌, refl, ap, ◌∙◌}
use mathlib.Core.Bool.{Bool, true, false, cond}
use mathlib.Core.List.{List, [], ◌∷◌}
use mathlib.Core.Option.{none, some}
use Prim.Native.Nat.{ℕ, suc, min}
use native.Mathlib.Omega.{arith}
use lib.ListN.{length}
use lib.Dec.{eqb, ltb}
use borrow.Author.Tests.{ltb-true, ne_eqb}
use Rattle.octet.specs.Bytes.{part}
use Rattle.octet.specs.Maybe.{is_none, unless}
use Rattle.octet.specs.Maybe as maybe
use Rattle.field.specs.Pieces.{Pieces, pieces_of, values_of, first_of, text_at, count_of}
use Rattle.field.specs.Stands.{Place, At, Missing, place_of}
use Rattle.field.specs.Index.{column_count, column_of, is_listed, start_in, len_in, index_of, column_at}
use Rattle.field.specs.declared.Column.{Column}
use Rattle.field.specs.Look.{Look, look_of, look_in, at_listed, first}
use Rattle.field.proofs.Cuts.{part_by, value-at}
use Rattle.field.proofs.IndexLaws.{column-of-index}

part-place : (body : List ℕ) (p : Place) → part (start_in p) (len_in p) body ≡ part_by body p
part-place body Missing = refl
part-place body (At s n) = refl

module _ (body : List ℕ) where
  text-law : (tag : ℕ) → (look_in body (index_of body)).text tag ≡ (at_listed (look_of (pieces_of body))).text tag
  unfolding look_in at_listed
  text-law tag = by (ltb (column_of tag) column_count) refl
    where
      by : (q : Bool) → ltb (column_of tag) column_count ≡ q
          → cond q (let c = column_at (index_of body) (column_of tag) in part c.start c.len body) [] ≡ cond q (text_at tag (pieces_of body)) []
      by true e =
          ap (λ (z : Column). part z.start z.len body) (column-of-index body tag (ltb-true (column_of tag) column_count e))
          ∙ part-place body (place_of tag body)
          ∙ value-at tag body
      by false e = refl

  count_law : (tag : ℕ) → (look_in body (index_of body)).count tag ≡ (at_listed (look_of (pieces_of body))).count tag
  unfolding look_in at_listed
  count_law tag = by (ltb (column_of tag) column_count) refl
    where
      by : (q : Bool) → ltb (column_of tag) column_count ≡ q → cond q (column_at (index_of body) (column_of tag)).count 0 ≡ cond q (count_of tag (pieces_of body)) 0
      by true e = ap (λ (z : Column). z.count) (column-of-index body tag (ltb-true (column_of tag) column_count e))
      by false e = refl

  pub look-law : look_in body (index_of body) ≡ at_listed (look_of (pieces_of body))
  look-law = λ i. record { count = λ (tag : ℕ). count_law tag i; text = λ (tag : ℕ). text-law tag i }

  pub look-by : {index : List Column} → index ≡ index_of body → look_in body index ≡ at_listed (look_of (pieces_of body))
  look-by e = ap (look_in body) e ∙ look-law

-- at a listed tag nothing is passed over
module _ (look : Look) (tag : ℕ) (l : is_listed tag ≡ true) where
  pub text-listed : (at_listed look).text tag ≡ look.text tag
  unfolding at_listed
  text-listed = rw l

  pub count-listed : (at_listed look).count tag ≡ look.count tag
  unfolding at_listed
  count-listed = rw l

-- the first field of a tag, by how often it stands and its value
pub first-of : (ps : Pieces) (tag : ℕ) → first (look_of ps) tag ≡ first_of tag ps
unfolding count_of
first-of ps tag = by (values_of tag ps)
  where
    by : (vs : Pieces) → cond (eqb (min 2 (length vs)) 0) none (some (unless [] (maybe.first vs))) ≡ maybe.first vs
    by [] = refl
    by (v ∷ vs) = rw (ne_eqb (min 2 (suc (length vs))) 0 (λ z. omega arith))

pub missing-of : (ps : Pieces) (tag : ℕ) → eqb (count_of tag ps) 0 ≡ is_none (first_of tag ps)
unfolding count_of
missing-of ps tag = by (values_of tag ps)
  where
    by : (vs : Pieces) → eqb (min 2 (length vs)) 0 ≡ is_none (maybe.first vs)
    by [] = refl
    by (v ∷ vs) = ne_eqb (min 2 (suc (length vs))) 0 (λ z. omega arith)
