use Rattle.receiver.proofs.Speaking.{change-none, change-e, change-o}
use Rattle.receiver.proofs.telling.note_change.Goals.{else-was-next-via-then-was-next+else-was-next-2, else-was-next-via-else-was-next}
use Rattle.receiver.proofs.telling.note_change.Goals as goal

pub returns-then-was-next-2 : goal.returns-then-was-next-2
returns-then-was-next-2 c =
    let a = c.args in
    change-none a.was a.next a.note.now c.if-was-next.true c.if-was-next-2.true

pub returns-else-was-next : goal.returns-else-was-next
returns-else-was-next c =
    let a = c.args in
    elim c.else-was-next.branch [
      | else-was-next-via-then-was-next+else-was-next-2 w ↦ change-o a.was a.next a.note.now c.requires c.put_raises.ensures w.if-was-next-2.false
      | else-was-next-via-else-was-next w ↦ change-e a.was a.next a.note.now c.requires c.put_raises.ensures w.if-was-next.false
    ]
