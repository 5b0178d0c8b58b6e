use Rattle.receiver.proofs.Speaking.{spoken-written}
use Rattle.receiver.proofs.telling.speak.Goals as goal

pub returns : goal.returns
returns c =
    let pre = c.requires in
    let a = c.args in
    let write-reply = c.write_reply-replied in
    let note-change = c.note_change-noted in
    spoken-written a.setup a.st a.time.now a.word.now a.answer a.next a.r a.reply.now a.note.now pre.0
    write-reply.ensures note-change.ensures
