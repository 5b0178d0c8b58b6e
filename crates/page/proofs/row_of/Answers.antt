-- `page::row_of` meets its contract.
use Prim.Native.Nat.{ℕ}
use Rattle.book.specs.Memory.{slots_in}
use Rattle.fill.specs.Slot.{order_of}
use Rattle.octet.specs.Splice.{splice}
use Rattle.page.specs.Page.{row_as, row_of}
use Rattle.page.specs.declared.OrderRow.{OrderRow}
use lib.ListN.{replicate}
use mathlib.Core.List.{List}
use mathlib.Core.Path.{ap, ap₂, ◌∙◌}
use Rattle.page.proofs.row_of.Goals as goal

abbrev made : List ℕ → ℕ → OrderRow
made id n = record { id = id; waiting = n }

pub returns : goal.returns
unfolding row_of
returns c =
    let a = c.args in
    let ss = slots_in a.marks.last a.book.now in
    ap₂ made
    (c.copy_into.ensures.1
    ∙ ap (λ (x : List ℕ). splice (replicate 31 0) 0 x) (c.order_of.ensures ∙ ap order_of c.head_of-head.ensures))
    c.waits_in.ensures
    ∙ ap (row_as ss) c.row_in-row.ensures
