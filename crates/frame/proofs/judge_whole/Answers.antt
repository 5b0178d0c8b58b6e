-- `frame::judge_whole` meets its contract.
use mathlib.Core.Path.{sym, ap, ap₂, ◌∙◌}
use Prim.Native.Nat.{◌+◌}
use borrow.Author.Tests.{le-ltb, lt-ltb}
use Rattle.octet.specs.Bytes.{agree}
use Rattle.octet.proofs.Lists.{part-rest, part-sized}
use Rattle.frame.specs.Finding.{judge_whole, body_ok, trailer_of}
use Rattle.frame.proofs.judge_whole.Goals as goal

pub returns-then-s-end : goal.returns-then-s-end
unfolding judge_whole
returns-then-s-end c = rw (lt-ltb _ _ c.if-s-end.true)

pub returns-then-not-body_ok : goal.returns-then-not-body_ok
unfolding judge_whole
returns-then-not-body_ok c =
    let a = c.args in
    let body = sym (c.body_ok.ensures ∙ ap body_ok (part-sized a.s.now a.at a.n)) ∙ c.if-not-body_ok.true in
    rw (le-ltb _ _ c.if-s-end.false, body)

pub returns-then-not-agree : goal.returns-then-not-agree
unfolding judge_whole
returns-then-not-agree c =
    let a = c.args in
    let body = sym (c.body_ok.ensures ∙ ap body_ok (part-sized a.s.now a.at a.n)) ∙ c.if-not-body_ok.false in
    let trailer = c.agree.ensures ∙ ap₂ agree (c.trailer-t.ensures ∙ ap trailer_of c.byte_sum.ensures) (part-rest a.s.now (a.at + a.n)) in
    rw (le-ltb _ _ c.if-s-end.false, body, sym trailer ∙ c.if-not-agree.true)

pub returns : goal.returns
unfolding judge_whole
returns c =
    let a = c.args in
    let body = sym (c.body_ok.ensures ∙ ap body_ok (part-sized a.s.now a.at a.n)) ∙ c.if-not-body_ok.false in
    let trailer = c.agree.ensures ∙ ap₂ agree (c.trailer-t.ensures ∙ ap trailer_of c.byte_sum.ensures) (part-rest a.s.now (a.at + a.n)) in
    rw (le-ltb _ _ c.if-s-end.false, body, sym trailer ∙ c.if-not-agree.false)
