-- `value::is_plain_time` meets its contract: where it says yes the day, the clock and .mmm are like the pattern, and in range.
use borrow.Author.Rules.{rules}
use mathlib.Core.Path.{◌≡◌, sym, ◌∙◌}
use mathlib.Core.Bool.{true}
use Prim.Native.Nat.{ℕ}
use Rattle.std.specs.Prelude.{Option, Some, None, is_some}
use Rattle.value.proofs.Times.{time-plain}
use Rattle.value.proofs.is_plain_time.Goals as goal

-- what is there
there : (o p : Option ℕ) → o ≡ p → is_some o ≡ true → (n : ℕ) × (Some n ≡ p)
there (Some n) p e h = (n, e)
there None p e h = cc

pub returns-then-is_plain_day : goal.returns-then-is_plain_day
returns-then-is_plain_day c =
    λ t. (let pair = there _ _ c.pair_at.ensures.pair (search rules) in
    time-plain c.args.v.now c.if-v-ne21.false c.if-v-ne46.false pair.0 pair.1 (sym c.is_digit.ensures ∙ c.if-not-is_digit.false)
    (c.is_plain_day.ensures c.if-is_plain_day.true) (c.is_plain_clock.ensures t))
