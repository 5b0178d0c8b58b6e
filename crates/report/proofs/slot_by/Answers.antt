-- The slot of a fill, by the sums that were read.
use mathlib.Core.Path.{ap}
use Rattle.field.specs.Look.{seen_by}
use Rattle.report.specs.declared.Sums.{Sums}
use Rattle.report.proofs.Rules.{slot_read}
use Rattle.report.proofs.slot_by.Goals as goal

pub returns : goal.returns
returns c =
    let sums = c.requires in
    slot_read (seen_by c.args.look)
    c.slot_with.ensures
    c.value-exec.ensures c.value.ensures c.value-2.ensures c.code_at.ensures
    (ap (λ (n : Sums). n.quantity) sums) (ap (λ (n : Sums). n.shares) sums) c.price_at.ensures (ap (λ (n : Sums). n.cum) sums) c.value-3.ensures
