-- `restart::replay` meets its contract. The invariant: the whole restart is what the rest of the notes leads to from the counts and the memory.
use mathlib.Core.Path.{ap, sym, ◌∙◌}
use native.Mathlib.Omega.{arith}
use lib.ListN.{length}
use Rattle.octet.proofs.Lists.{part-rest}
use Rattle.note.specs.Notes.{read_note}
use Rattle.note.specs.declared.First.{First}
use Rattle.restart.specs.Restart.{restart}
use Rattle.restart.specs.Steps.{kept_in}
use Rattle.restart.proofs.Stepping.{start, turn_on, turn_end, turn-bad, turns-done, mem-length}
use Rattle.restart.proofs.replay.Goals as goal

pub loop-at-init : goal.loop-at-init
loop-at-init c =
    let a = c.args in
    (start a.notes.now a.mem.now _ c.empty_counts-m.ensures, omega arith, omega arith)

pub take_note-requires : goal.take_note-requires
take_note-requires c = ap (λ (x : First). x.says) c.read_note-first.ensures

pub overflow_add-at : goal.overflow_add-at
overflow_add-at c =
    let l = c.args.notes.now in
    let i = c.loop-at.at in
    let taken = ap (λ (x : First). x.taken) c.read_note-first.ensures in
    let st = c.take_note in
    let v = c.loop-at.invariant in
    let does = sym c.in-On.is ∙ st.ensures.0 in
    let g = turn_on l _ (restart l) c.loop-at.m c.loop-at.mem st.new.mem i (part-rest l i) v.0 v.2 v.1 does st.ensures.1 taken in
    omega (arith, g.1)

pub loop-at-smaller : goal.loop-at-smaller
loop-at-smaller c =
    let l = c.args.notes.now in
    let i = c.loop-at.at in
    let taken = ap (λ (x : First). x.taken) c.read_note-first.ensures in
    let st = c.take_note in
    let v = c.loop-at.invariant in
    let does = sym c.in-On.is ∙ st.ensures.0 in
    let g = turn_on l _ (restart l) c.loop-at.m c.loop-at.mem st.new.mem i (part-rest l i) v.0 v.2 v.1 does st.ensures.1 taken in
    omega (arith, g.1, g.2)

pub loop-at-preserved : goal.loop-at-preserved
loop-at-preserved c =
    let l = c.args.notes.now in
    let i = c.loop-at.at in
    let taken = ap (λ (x : First). x.taken) c.read_note-first.ensures in
    let st = c.take_note in
    let v = c.loop-at.invariant in
    let does = sym c.in-On.is ∙ st.ensures.0 in
    let g = turn_on l _ (restart l) c.loop-at.m c.loop-at.mem st.new.mem i (part-rest l i) v.0 v.2 v.1 does st.ensures.1 taken in
    (g.0, g.1, ap length st.ensures.1 ∙ mem-length c.loop-at.mem (kept_in c.loop-at.m c.loop-at.mem) (read_note _) ∙ v.2)

pub returns-in-End : goal.returns-in-End
returns-in-End c =
    let l = c.args.notes.now in
    let i = c.loop-at.at in
    let st = c.take_note in
    let v = c.loop-at.invariant in
    let g = turn_end l _ (restart l) c.loop-at.m c.loop-at.mem st.new.mem i (part-rest l i) v.0 (sym c.in-End.is ∙ st.ensures.0) st.ensures.1 in
    (g.0, g.1, ap length st.ensures.1 ∙ mem-length c.loop-at.mem (kept_in c.loop-at.m c.loop-at.mem) (read_note _) ∙ v.2)

pub returns-in-Bad : goal.returns-in-Bad
returns-in-Bad c =
    let l = c.args.notes.now in
    let i = c.loop-at.at in
    let st = c.take_note in
    let v = c.loop-at.invariant in
    let g = turn-bad l _ (restart l) c.loop-at.m c.loop-at.mem st.new.mem i (part-rest l i) v.0 (sym c.in-Bad.is ∙ st.ensures.0) in
    (g.0, g.1, ap length st.ensures.1 ∙ mem-length c.loop-at.mem (kept_in c.loop-at.m c.loop-at.mem) (read_note _) ∙ v.2)

pub returns-after-loop-at : goal.returns-after-loop-at
returns-after-loop-at c =
    let l = c.args.notes.now in
    let g = turns-done l (restart l) c.loop-at.m c.loop-at.mem c.loop-at.at c.loop-at.invariant.0 (omega arith) in
    (g.0, g.1, c.loop-at.invariant.2)
