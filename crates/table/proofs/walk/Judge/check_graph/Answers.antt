-- `table::walk::Judge::check_graph` meets its contract: any length passes where the bytes are read, and is judged after.
use mathlib.Core.Path.{sym, ap, ◌∙◌}
use mathlib.Core.Option.{none}
use Rattle.std.proofs.lemmas.Result.{err_from_is_err_and}
use Rattle.value.specs.Readers.{checked}
use Rattle.table.proofs.Values.{graph-formed, graph-refused}
use Rattle.table.proofs.walk.Judge.check_graph.Goals as goal

pub returns-in_err-read_graph : goal.returns-in_err-read_graph
returns-in_err-read_graph c =
    let p = err_from_is_err_and c.from_residual.result c.from_residual.ensures.1 in
    rw (p.1, p.2) (graph-refused _ _ _ _ _ (sym c.read_graph.ensures ∙ c.in_err-read_graph.was))

pub returns : goal.returns
returns c = c.fitted.ensures ∙ ap (checked none) c.is_in_range.ensures ∙ graph-formed _ _ _ _ (sym c.read_graph.ensures ∙ c.in_ok-read_graph.was)
