-- `table::fault_in` meets its contract, step by step.
use mathlib.Core.Path.{◌≡◌, refl}
use borrow.Author.Rules.{rules}
use Rattle.std.proofs.lemmas.Result.{err_from_is_err_and}
use Rattle.table.specs.Steps.{scan_fault, first_fault, found}
use Rattle.table.proofs.Walks.{passed}
use Rattle.table.proofs.fault_in.Goals as goal

pub returns-in_err-map_err : goal.returns-in_err-map_err
unfolding first_fault
returns-in_err-map_err c =
    let p = err_from_is_err_and c.from_residual.result c.from_residual.ensures.1 in
    let s : found c.map_err.result ≡ scan_fault c.args.scan = passed scan_fault refl _ _ c.map_err.ensures.cases (λ e d x. search rules) in
    rw (p.1, p.2, ← s, c.in_err-map_err.was)

pub returns-in_err-kind_fault : goal.returns-in_err-kind_fault
unfolding first_fault
returns-in_err-kind_fault c =
    let p = err_from_is_err_and c.from_residual-in_err-kind_fault.result c.from_residual-in_err-kind_fault.ensures.1 in
    let s : found c.map_err.result ≡ scan_fault c.args.scan = passed scan_fault refl _ _ c.map_err.ensures.cases (λ e d x. search rules) in
    rw (p.1, p.2, ← s, c.in_ok-map_err.was, ← c.in_err-kind_fault.ensures)

pub returns : goal.returns
unfolding first_fault
returns c =
    let s : found c.map_err.result ≡ scan_fault c.args.scan = passed scan_fault refl _ _ c.map_err.ensures.cases (λ e d x. search rules) in
    rw (← s, c.in_ok-map_err.was, ← c.in_ok-kind_fault.ensures) c.walk.ensures
