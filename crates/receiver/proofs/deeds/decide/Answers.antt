use Rattle.field.specs.Pieces.{pieces_of}
use Rattle.receiver.proofs.Deciding.{decided-nothing, decided-this}
use Rattle.receiver.proofs.deeds.decide.Goals as goal

pub place-requires : goal.place-requires
place-requires c = c.bring.ensures.small _ c.in-This.is

pub returns-in-Nothing : goal.returns-in-Nothing
returns-in-Nothing c = let a = c.args in decided-nothing a.setup a.st a.book.now (pieces_of a.look.body.now) c.bring.ensures c.in-Nothing.is

pub returns-in-This : goal.returns-in-This
returns-in-This c =
    let a = c.args in
    decided-this a.setup a.st a.book.now (pieces_of a.look.body.now) c.bring.ensures _ c.in-This.is c.place.ensures
