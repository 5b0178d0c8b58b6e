-- `table::walk::walk` meets its contract: the header's rows, and where these find nothing, the type's own.
use mathlib.Core.Path.{refl, sym, ap, ◌∙◌}
use mathlib.Core.List.{List, map}
use Rattle.std.proofs.lemmas.Result.{err_from_is_err_and}
use Rattle.field.specs.Index.{listed, position, column_of}
use Rattle.field.specs.Look.{seen_by}
use Rattle.table.specs.declared.Row.{Row}
use Rattle.table.specs.Rows.{header_rows, rows_of, here_of, rows_in}
use Rattle.table.specs.Steps.{walk}
use Rattle.table.proofs.Walks.{rows-back, walk-append}
use Rattle.table.proofs.walk.walk.Goals as goal

pub walk_rows-requires : goal.walk_rows-requires
unfolding column_of position listed
walk_rows-requires c = refl

pub returns-in_err-walk_rows : goal.returns-in_err-walk_rows
returns-in_err-walk_rows c =
    let p = err_from_is_err_and c.from_residual.result c.from_residual.ensures.1 in
    rw (p.1, p.2) (sym (walk-append c.args.given (seen_by c.args.look) header_rows (rows_of c.args.kind) ∙ rw (← c.in_err-walk_rows.ensures) refl))

pub walk_rows-requires-2 : goal.walk_rows-requires-2
walk_rows-requires-2 c = c.rows_of.ensures ∙ sym (ap (λ (rows : List Row). map here_of rows) (ap rows_in c.rows_of.ensures ∙ rows-back (rows_of c.args.kind)))

pub returns : goal.returns
returns c =
    let look = seen_by c.args.look in
    c.walk_rows-2.ensures
    ∙ ap (walk c.args.given look) (ap rows_in c.rows_of.ensures ∙ rows-back (rows_of c.args.kind))
    ∙ sym (walk-append c.args.given look header_rows (rows_of c.args.kind) ∙ rw (← c.in_ok-walk_rows.ensures) refl)
