-- The index of a body, as it is lent: of each listed tag where the value of its first field stands, how long that is and how often the tag stands.
use Rattle.std.specs.Prelude.{ℕ, suc, List, [], ◌∷◌, map, Bool, cond, get_or, set, eqb, ltb, Some, None}
use Rattle.field.specs.Pieces.{pieces_of, count_of}
use Rattle.field.specs.Stands.{Piece, Place, At, Missing, place_of}
use Rattle.field.specs.declared.Column.{Column}

-- the tags that the index keeps, in the order of their columns: those of the header and of the tables
unfoldable pub listed : List ℕ
listed =
    34 ∷ 49 ∷ 56 ∷ 43 ∷ 52 ∷ 97 ∷ 98 ∷ 108 ∷ 141 ∷ 112 ∷ 7 ∷ 16 ∷ 123 ∷ 36 ∷ 17 ∷ 37 ∷ 20 ∷ 55 ∷ 54 ∷ 38 ∷ 32 ∷ 31 ∷ 14 ∷ 151 ∷ 150 ∷ 39
    ∷ 60 ∷ 442 ∷ 35 ∷ 9020 ∷ 1003 ∷ 9021 ∷ 11 ∷ 42 ∷ 167 ∷ []

-- how many they are: the one place of this number
abbrev pub column_count : ℕ
column_count = 35

-- where a number stands in a list, and the list's length where it does not
unfoldable pub position : List ℕ → ℕ → ℕ
position [] u = 0
position (t ∷ ts) u = let later = suc (position ts u) in cond (eqb u t) 0 later

unfoldable pub column_of : ℕ → ℕ
column_of tag = position listed tag

abbrev pub is_listed : ℕ → Bool
is_listed tag = ltb (column_of tag) column_count

-- ---- the index: a column for each of them

abbrev pub column : ℕ → ℕ → ℕ → Column
column s n c = record { start = s; len = n; count = c }

abbrev pub unseen : Column
unseen = column 0 0 0

abbrev pub start_in : Place → ℕ
start_in Missing = 0
start_in (At s n) = s

abbrev pub len_in : Place → ℕ
len_in Missing = 0
len_in (At s n) = n

-- what the index has of a tag
abbrev pub told_of : List ℕ → ℕ → Column
told_of body tag = column (start_in (place_of tag body)) (len_in (place_of tag body)) (count_of tag (pieces_of body))

unfoldable pub index_of : List ℕ → List Column
index_of body = map (told_of body) listed

-- column k
abbrev pub column_at : List Column → ℕ → Column
column_at x k = get_or x k unseen

-- ---- how a pass fills it

-- one field more, whose value stands at s and has n bytes: the first is kept, a further one is counted as 2
abbrev pub more : Column → ℕ → ℕ → Column
more z s n = cond (eqb z.count 0) (column s n 1) (column z.start z.len 2)

-- of column k, if k is one
unfoldable pub noted_at : List Column → ℕ → ℕ → ℕ → List Column
noted_at x k s n = cond (ltb k column_count) (set x k (more (column_at x k) s n)) x

unfoldable pub noted : List Column → Piece → List Column
noted x None = x
noted x (Some f) = noted_at x (column_of f.tag) f.start f.len
