-- `fill::put_time` meets its contract: one of 21 bytes is its own field.
use mathlib.Core.Path.{ap, ◌∙◌}
use Rattle.octet.specs.Splice.{splice}
use Rattle.fill.proofs.Made.{time-same}
use Rattle.fill.proofs.put_time.Goals as goal

pub returns-then-t-eq-TIME : goal.returns-then-t-eq-TIME
returns-then-t-eq-TIME c =
    let a = c.args in
    c.copy_into.ensures.1 ∙ ap (splice a.dst.now a.at) (time-same a.t.now c.if-t-eq-TIME.true)

pub returns : goal.returns
returns c =
    let a = c.args in
    c.copy_into-2.ensures.1 ∙ ap (splice a.dst.now a.at) c.time_field.ensures
