-- A look at the fields of a body, by which everything above is defined: how often a tag stands, and its value.
use Rattle.std.specs.Prelude.{ℕ, List, [], cond, eqb, ltb}
use Rattle.std.proofs.Math.Option.{Option, none, some}
use Rattle.octet.specs.Bytes.{part}
use Rattle.field.specs.Pieces.{Pieces, text_at, count_of}
use Rattle.field.specs.Index.{column_count, column_of, is_listed, column_at}
use Rattle.field.specs.declared.Column.{Column}
use Rattle.field.specs.declared.Look.{Look as Lent}

pub record Look : Type 0 where
  -- how often a tag stands, 2 for more than once
  pub count : ℕ → ℕ
  -- "of a repeated tag the first counts": the value of its first field; nothing where there is none
  pub text : ℕ → List ℕ

-- by the pieces of a body
abbrev pub look_of : Pieces → Look
look_of ps = record { count = λ (tag : ℕ). count_of tag ps; text = λ (tag : ℕ). text_at tag ps }

-- by an index that is lent with it: what stands in a column, and nothing where there is no such column
abbrev pub count_in : List Column → ℕ → ℕ
count_in index k = cond (ltb k column_count) (column_at index k).count 0

abbrev pub text_in : List ℕ → List Column → ℕ → List ℕ
text_in body index k = cond (ltb k column_count) (let c = column_at index k in part c.start c.len body) []

unfoldable pub look_in : List ℕ → List Column → Look
look_in body index = record { count = λ (tag : ℕ). count_in index (column_of tag); text = λ (tag : ℕ). text_in body index (column_of tag) }

-- by a body and its index, as they are lent together
abbrev pub seen_by : Lent → Look
seen_by lent = look_in lent.body.now lent.index.now

-- "Unlisted tags are passed over": a look at listed tags alone. So a body is looked at by its own index (proofs/Looks)
unfoldable pub at_listed : Look → Look
at_listed look = record {
  count = λ (tag : ℕ). cond (is_listed tag) (look.count tag) 0;
  text = λ (tag : ℕ). cond (is_listed tag) (look.text tag) [];
}

-- the first field of a tag
abbrev pub first : Look → ℕ → Option (List ℕ)
first look tag = cond (eqb (look.count tag) 0) none (some (look.text tag))
