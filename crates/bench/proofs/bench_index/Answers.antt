use mathlib.Core.Path.{ap, ◌∙◌}
use Rattle.std.specs.Prelude.{Err}
use Rattle.bench.proofs.Told.{indexed-body}
use Rattle.bench.proofs.bench_index.Goals as goal

pub returns-in-Ok : goal.returns-in-Ok
returns-in-Ok c = indexed-body c.args.body.now _ c.in-Ok.is c.index_into-scan.ensures c.lay.ensures

pub returns-in-Err-Malformed : goal.returns-in-Err-Malformed
returns-in-Err-Malformed c =
    let e = c.in-Err-Malformed in
    indexed-body c.args.body.now _ (e.is ∙ ap Err (rw e.is at e.field-0-is)) c.index_into-scan.ensures c.lay.ensures

pub returns-in-Err-Empty : goal.returns-in-Err-Empty
returns-in-Err-Empty c =
    let e = c.in-Err-Empty in
    indexed-body c.args.body.now _ (e.is ∙ ap Err (rw e.is at e.field-0-is)) c.index_into-scan.ensures c.lay.ensures
