-- `octet::four_at` meets its contract.
use mathlib.Core.Path.{ap, ◌∙◌}
use Rattle.std.specs.Int.{w32, from_be_bytes}
use Rattle.octet.specs.Bytes.{part}
use Rattle.octet.proofs.Lists.{part-most}
use Rattle.octet.proofs.Places.{four-filled}
use Rattle.octet.proofs.four_at.Goals as goal

pub returns : goal.returns
returns c =
    let a = c.args in
    c.from_be_bytes.ensures ∙ ap (from_be_bytes w32) c.bytes_at.ensures ∙ four-filled (part a.at 4 a.s.now) (part-most a.at 4 a.s.now)
