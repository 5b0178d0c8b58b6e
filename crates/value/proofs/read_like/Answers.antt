-- `value::read_like` meets its contract, by form and then by range.
use mathlib.Core.Path.{sym, ap, ◌∙◌}
use mathlib.Core.Bool.{Bool, cond}
use Rattle.std.specs.Prelude.{Ok, Err}
use Rattle.value.specs.declared.Flaw.TheVariants.{Range}
use Rattle.value.proofs.Times.{time-short, time-long, time-formed, time-ranged}
use Rattle.value.proofs.read_like.Goals.{then-good-v-via-then-good-v, then-good-v-via-else-good-v+then-not-is_time_long}
use Rattle.value.proofs.read_like.Goals as goal

pub returns-then-good-v : goal.returns-then-good-v
returns-then-good-v c =
    elim c.then-good-v.branch [
      | then-good-v-via-then-good-v w ↦ time-short _ _ c.like_run-good.ensures w.if-good-v.true
      | then-good-v-via-else-good-v+then-not-is_time_long w ↦
          time-long _ _ c.like_run-good.ensures w.if-good-v.false (sym w.is_time_long.ensures ∙ w.if-not-is_time_long.true)
    ]

pub returns-then-not-time_fits : goal.returns-then-not-time_fits
returns-then-not-time_fits c =
    let f = time-formed _ _ c.like_run-good.ensures c.if-good-v.false (sym c.is_time_long.ensures ∙ c.if-not-is_time_long.false) in
    sym (time-ranged _ f ∙ ap (λ (t : Bool). cond t (Ok tt) (Err Range)) (sym c.time_fits.ensures ∙ c.if-not-time_fits.true))

pub returns : goal.returns
returns c =
    let f = time-formed _ _ c.like_run-good.ensures c.if-good-v.false (sym c.is_time_long.ensures ∙ c.if-not-is_time_long.false) in
    sym (time-ranged _ f ∙ ap (λ (t : Bool). cond t (Ok tt) (Err Range)) (sym c.time_fits.ensures ∙ c.if-not-time_fits.false))
