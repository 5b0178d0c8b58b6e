use mathlib.Core.Path.{◌≡◌, ap, ◌∙◌}
use Rattle.book.specs.declared.Load.{Load}
use Rattle.bench.specs.Timed.{load_of, online}
use Rattle.bench.proofs.Told.{timed-filed}
use Rattle.bench.proofs.bench_acknowledge.Goals as goal

pub returns : goal.returns
returns c =
    let a = c.args in
    let st : c.online-st.result ≡ online 1 (load_of a.fills a.orders a.entries) a.upto = c.online-st.ensures ∙ ap (λ (l : Load). online 1 l a.upto) c.load_of.ensures in
    rw (← c.agreed.ensures, ← st) (timed-filed (c.acknowledge.ensures 0 0) c.word_of.ensures)
