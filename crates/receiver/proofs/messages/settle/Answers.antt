use Rattle.receiver.proofs.Framing.{settled-entered}
use Rattle.receiver.proofs.messages.settle.Goals as goal

pub returns : goal.returns
returns c =
    let a = c.args in
    let speak = c.speak in
    λ m ps e. settled-entered a.setup a.st m a.time.now a.len ps a.j e (speak.ensures m)
