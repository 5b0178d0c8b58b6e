-- `octet::eight_at` meets its contract.
use mathlib.Core.Path.{ap, ◌∙◌}
use Rattle.std.specs.Int.{w64, from_be_bytes}
use Rattle.octet.specs.Bytes.{part}
use Rattle.octet.proofs.Lists.{part-most}
use Rattle.octet.proofs.Places.{eight-filled}
use Rattle.octet.proofs.eight_at.Goals as goal

pub returns : goal.returns
returns c =
    let a = c.args in
    c.from_be_bytes.ensures ∙ ap (from_be_bytes w64) c.bytes_at.ensures ∙ eight-filled (part a.at 8 a.s.now) (part-most a.at 8 a.s.now)
