-- `value::is_time` meets its contract: a time is what reads as one.
use Rattle.value.specs.Readers.{time_checked}
use Rattle.value.proofs.Times.{time-ok}
use Rattle.value.proofs.is_time.Goals as goal

pub returns : goal.returns
unfolding time_checked
returns c = rw (c.is_ok.ensures.value, c.read_time.ensures) (time-ok _ _)
