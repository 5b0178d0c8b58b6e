use Rattle.fill.specs.Slot.{place_of}
use mathlib.Core.Path.{sym, ◌∙◌}
use Rattle.fill.proofs.Made.{byte-number}
use Rattle.fill.proofs.side_of.Goals as goal

pub returns : goal.returns
returns c = c.from.ensures ∙ c.byte_at.ensures ∙ sym (byte-number (place_of 3) c.args.s.now)
