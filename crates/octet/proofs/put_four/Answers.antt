-- `octet::put_four` meets its contract.
use mathlib.Core.Path.{◌≡◌, ap, ◌∙◌}
use Rattle.octet.specs.Places.{high}
use Rattle.octet.specs.Splice.{splice, fits_at}
use Rattle.octet.proofs.Places.{high-bytes}
use Rattle.octet.proofs.put_four.Goals as goal

pub returns : goal.returns
returns c =
    let a = c.args in
    let e : c.to_be_bytes.result ≡ high 4 a.n = c.to_be_bytes.ensures ∙ high-bytes 4 a.n in
    (c.copy_into.ensures.0 ∙ ap (fits_at a.dst.now a.at) e, c.copy_into.ensures.1 ∙ ap (splice a.dst.now a.at) e)
