-- `wire::write_reply` meets its contract: of two messages the second is numbered after the first.
use Rattle.wire.specs.Messages.{reply_of}
use Rattle.wire.proofs.Replies.{replied-two}
use Rattle.wire.proofs.write_reply.Goals as goal

pub returns-in-Two : goal.returns-in-Two
unfolding reply_of
returns-in-Two c = rw (c.in-Two.is, ← c.number_after.ensures) (replied-two c.if-reply-lt-REPLY_ROOM.false c.write-at.ensures c.write-in-Two.ensures)
