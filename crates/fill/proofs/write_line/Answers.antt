use mathlib.Core.Path.{ap, ◌∙◌}
use native.Mathlib.Omega.{arith}
use Rattle.text.specs.Writing.{puts}
use Rattle.text.specs.declared.Text.{Text}
use Rattle.fill.specs.Booked.{line_of}
use Rattle.fill.proofs.Lines.{line-placed}
use Rattle.fill.proofs.write_line.Goals as goal

pub returns : goal.returns
returns c =
    let a = c.args in
    let t = c.line_text.ensures ∙ ap (λ (x : Text). puts x (line_of a.n a.s.now)) c.new-t.ensures in
    let p = line-placed a.n a.s.now a.line.now _ _ _ (omega (arith, c.ranges)) (λ i. omega (arith, c.type_inv.s i)) t c.place.ensures.dst_after c.place.ensures.value in
    record { line_after = p.0; value = p.1.0; line_bound = p.1.1 }
