use Rattle.receiver.proofs.Framing.{kept-entered}
use Rattle.receiver.proofs.messages.keep.Goals as goal

pub returns : goal.returns
returns c =
    let a = c.args in
    let m = a.book.now in
    let s = a.slot.now in
    kept-entered a.st m a.len s a.outcome a.next a.row a.note.now c.requires.0 c.book_len.ensures.book_len c.requires.1 c.put_books-noted.ensures
    c.enter.ensures
