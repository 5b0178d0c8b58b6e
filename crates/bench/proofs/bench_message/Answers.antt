use mathlib.Core.Path.{◌≡◌, ap, ◌∙◌}
use Rattle.book.specs.declared.Load.{Load}
use Rattle.bench.specs.Timed.{load_of, online}
use Rattle.bench.proofs.Told.{timed-call}
use Rattle.bench.proofs.bench_message.Goals as goal

pub returns : goal.returns
returns c =
    let a = c.args in
    let st : c.online.result ≡ online a.e (load_of a.fills a.orders a.entries) 0 = c.online.ensures ∙ ap (λ (l : Load). online a.e l 0) c.load_of.ensures in
    rw (← c.agreed.ensures, ← st) (timed-call c.lend-told.ensures c.word_of.ensures)
