-- `text::byte_sum` meets its contract.
-- Assumes nothing.
use Rattle.std.proofs.Common.{◌≡◌, ◌+◌, ◌%◌, fold, ◌∙◌, rules}
use Rattle.text.proofs.SumLaws.{fold-check}
use Rattle.text.proofs.byte_sum.Goals as goal

pub returns : goal.returns
returns c =
    let e : c.fold.result ≡ fold (λ t b. (t + b) % 256) 0 c.args.s.now = search rules in
    e ∙ fold-check _
