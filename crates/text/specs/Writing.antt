-- A text that is being written: bytes are put to it while there is room.
use Rattle.std.specs.Prelude.{ℕ, ◌+◌, cond, List, [], ◌∷◌, take, replicate, nat_lt, slice_set}
use Rattle.text.specs.declared.Text.{Text}

-- how many bytes a text has room for: the one place of this number
abbrev pub room : ℕ
room = 512

-- a text with no bytes
unfoldable pub empty : Text
empty = record { bytes = replicate room 0; len = 0 }

-- a text with one byte more, or the same where it is full
abbrev pub put1 : Text → ℕ → Text
put1 t b = cond (nat_lt t.len room) (record { bytes = slice_set t.bytes t.len b; len = t.len + 1 }) t

-- a text with more bytes
unfoldable pub puts : Text → List ℕ → Text
puts t [] = t
puts t (b ∷ bs) = puts (put1 t b) bs

-- what a text holds
unfoldable pub held : Text → List ℕ
held t = take t.len t.bytes
