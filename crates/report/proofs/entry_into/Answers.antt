-- The slot of an entry, in the lent bytes.
use Rattle.field.specs.Look.{seen_by}
use Rattle.report.proofs.Rules.{entry_read}
use Rattle.report.proofs.entry_into.Goals as goal

pub returns : goal.returns
returns c =
    entry_read (seen_by c.args.look)
    c.entry_with.ensures
    c.value.ensures c.number_at.ensures.value c.code_at.ensures c.code_at-2.ensures c.code_at-3.ensures
    c.value-2.ensures c.number_at-2.ensures.value c.price_at.ensures c.value-3.ensures
