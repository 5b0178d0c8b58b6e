-- `value::read_time` meets its contract: what is a time straight on is read, and the rest by its pattern.
use mathlib.Core.Path.{sym}
use Rattle.value.proofs.Times.{time-read}
use Rattle.value.proofs.read_time.Goals as goal

pub returns-then-is_plain_time : goal.returns-then-is_plain_time
returns-then-is_plain_time c = sym (time-read _ (c.is_plain_time.ensures c.if-is_plain_time.true))
