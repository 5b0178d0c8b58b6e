-- `restart::take_note` meets its contract, class by class.
use mathlib.Core.Path.{sym, ap, ◌∙◌}
use Rattle.note.proofs.Asking.{untold, was_read}
use Rattle.restart.specs.Steps.{kept_in, step_read, mem_read}
use Rattle.restart.proofs.Stepping.{any-raises, any-clears, take_whole, take-books, mem-raises, mem-clears}
use Rattle.restart.proofs.take_note.Goals as goal

pub returns-in-Raises : goal.returns-in-Raises
returns-in-Raises c =
    let a = c.args in
    let pre = c.requires in
    let m = a.mem.now in
    let s = a.s.now in
    let q = kept_in a.m m in
    let r = was_read s _ pre ∙ ap (untold s) c.in-Raises.is in
    take_whole q m s r (c.step_raises.ensures ∙ any-raises a.m m _ _) (mem-raises m q _ _)

pub returns-in-Books : goal.returns-in-Books
returns-in-Books c =
    let a = c.args in
    let pre = c.requires in
    let m = a.mem.now in
    let s = a.s.now in
    let q = kept_in a.m m in
    let r = was_read s _ pre ∙ ap (untold s) c.in-Books.is in
    take-books q m s c.slot_in_note.ensures r c.step_books.ensures.0 c.step_books.ensures.1

pub returns-in-Acks : goal.returns-in-Acks
returns-in-Acks c =
    let a = c.args in
    let pre = c.requires in
    let m = a.mem.now in
    let s = a.s.now in
    let q = kept_in a.m m in
    let r = was_read s _ pre ∙ ap (untold s) c.in-Acks.is in
    take_whole q m s r c.step_acks.ensures.0 c.step_acks.ensures.1

pub returns-in-Clears : goal.returns-in-Clears
returns-in-Clears c =
    let a = c.args in
    let pre = c.requires in
    let m = a.mem.now in
    let s = a.s.now in
    let q = kept_in a.m m in
    let r = was_read s _ pre ∙ ap (untold s) c.in-Clears.is in
    take_whole q m s r (c.step_clears.ensures ∙ any-clears a.m m) (mem-clears m q)

pub returns-in-Part : goal.returns-in-Part
returns-in-Part c =
    let a = c.args in
    let pre = c.requires in
    let m = a.mem.now in
    let s = a.s.now in
    let q = kept_in a.m m in
    let r = was_read s _ pre ∙ ap (untold s) c.in-Part.is in
    (sym (ap (step_read q) r), sym (ap (mem_read m q) r))

pub returns-in-Unknown : goal.returns-in-Unknown
returns-in-Unknown c =
    let a = c.args in
    let pre = c.requires in
    let m = a.mem.now in
    let s = a.s.now in
    let q = kept_in a.m m in
    let r = was_read s _ pre ∙ ap (untold s) c.in-Unknown.is in
    (sym (ap (step_read q) r), sym (ap (mem_read m q) r))
