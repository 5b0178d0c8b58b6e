use Rattle.answer.specs.Setup.{id_with}
use Rattle.receiver.proofs.setting_up.id_with.Goals as goal

pub returns : goal.returns
unfolding id_with
returns c = rw c.copy_into.ensures.1
