-- A time that is known straight on, as the private functions say it to one another: no public promise cites this.
use Rattle.std.specs.Prelude.{ℕ, ◌+◌, ◌≡◌, List, Bool, true, cond, ◌&&◌, drop, get_or, Option, Some, None}
use Rattle.octet.specs.Bytes.{between}
use Rattle.value.specs.Value.{time_pattern, like_run, is_day, is_clock, number_on}

-- how far a value is like a time from a place on
abbrev pub like_from : ℕ → List ℕ → ℕ
like_from at v = like_run (drop at time_pattern) (drop at v)

-- whether two digits stand there, and then their number
abbrev pub two_digits : ℕ → List ℕ → Bool
two_digits at v = between 48 57 (get_or v at 0) && between 48 57 (get_or v (at + 1) 0)

abbrev pub pair_on : ℕ → List ℕ → Option ℕ
pair_on at v = cond (two_digits at v) (Some (number_on at 2 v)) None

-- eight digits that are a day, and after them a mark and a clock
abbrev pub PlainDay : List ℕ → Type 0
PlainDay v = (like_from 0 v ≡ 8 + like_from 8 v) × (is_day (number_on 0 4 v) (number_on 4 2 v) (number_on 6 2 v) ≡ true)

abbrev pub PlainClock : List ℕ → Type 0
PlainClock v = (like_from 8 v ≡ 9 + like_from 17 v) × (is_clock (number_on 9 2 v) (number_on 12 2 v) (number_on 15 2 v) ≡ true)
