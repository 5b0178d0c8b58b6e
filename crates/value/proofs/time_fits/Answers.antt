-- `value::time_fits` meets its contract: the digits at each place are read whole, and judged.
use mathlib.Core.Path.{refl, sym, ◌∙◌}
use Rattle.octet.proofs.Cases.{and-no-left}
use Rattle.value.specs.Value.{time_fits}
use Rattle.value.proofs.Times.{day-read}
use Rattle.value.proofs.time_fits.Goals as goal

pub returns-then-is_day : goal.returns-then-is_day
unfolding time_fits
returns-then-is_day c =
    let day = day-read c.args.v.now c.requires _ _ _ _ c.pair_on.ensures.0 c.pair_on-2.ensures.0 c.pair_on-3.ensures.0 c.pair_on-4.ensures.0 in
    rw (sym day ∙ sym c.is_day.ensures ∙ c.if-is_day.true)
    (c.is_clock.ensures ∙ rw (c.pair_on-then-is_day.ensures.0, c.pair_on-then-is_day-2.ensures.0, c.pair_on-then-is_day-3.ensures.0) refl)

pub returns-else-is_day : goal.returns-else-is_day
unfolding time_fits
returns-else-is_day c =
    let day = day-read c.args.v.now c.requires _ _ _ _ c.pair_on.ensures.0 c.pair_on-2.ensures.0 c.pair_on-3.ensures.0 c.pair_on-4.ensures.0 in
    c.if-is_day.false ∙ sym (and-no-left _ _ (sym day ∙ sym c.is_day.ensures ∙ c.if-is_day.false))
