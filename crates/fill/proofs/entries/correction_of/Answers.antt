use mathlib.Core.Path.{sym, ◌∙◌}
use Rattle.fill.specs.Entry.{entry_place_of}
use Rattle.fill.proofs.Made.{byte-number}
use Rattle.fill.proofs.entries.correction_of.Goals as goal

pub returns : goal.returns
returns c = c.from.ensures ∙ c.byte_at.ensures ∙ sym (byte-number (entry_place_of 4) c.args.s.now)
