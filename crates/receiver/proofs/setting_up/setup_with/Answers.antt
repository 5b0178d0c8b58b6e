use Rattle.receiver.specs.Receiver.{setup_with}
use Rattle.receiver.proofs.setting_up.setup_with.Goals as goal

pub returns : goal.returns
unfolding setup_with
returns c = rw (c.id_with.ensures, c.id_with-2.ensures)
