-- `note::note_kind` meets its contract: each row computes.
use mathlib.Core.Path.{sym, ap}
use borrow.Author.Tests.{ne_eqb}
use Rattle.note.specs.Kinds.{note_kind}
use Rattle.note.proofs.note_kind.Goals as goal

pub returns-in-83 : goal.returns-in-83
unfolding note_kind
returns-in-83 c = sym (ap note_kind c.in-83.is)

pub returns-in-70 : goal.returns-in-70
unfolding note_kind
returns-in-70 c = sym (ap note_kind c.in-70.is)

pub returns-in-75 : goal.returns-in-75
unfolding note_kind
returns-in-75 c = sym (ap note_kind c.in-75.is)

pub returns-in-68 : goal.returns-in-68
unfolding note_kind
returns-in-68 c = sym (ap note_kind c.in-68.is)

pub returns-in-67 : goal.returns-in-67
unfolding note_kind
returns-in-67 c = sym (ap note_kind c.in-67.is)

pub returns-in_default : goal.returns-in_default
unfolding note_kind
returns-in_default c =
    let k = c.args.byte in
    let r = c.in_default.in_default-own.rest in
    rw (ne_eqb k 83 r.0.0.0.0.1, ne_eqb k 70 r.0.0.0.1, ne_eqb k 75 r.0.0.1, ne_eqb k 68 r.0.1, ne_eqb k 67 r.1)
