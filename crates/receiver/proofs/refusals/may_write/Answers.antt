-- `receiver::refusals::may_write` meets its contract: the tests one by one.
use mathlib.Core.Bool.{true, false}
use mathlib.Core.Path.{refl, sym, ◌∙◌}
use borrow.Author.Tests.{lt-ltb, le-ltb}
use Rattle.receiver.proofs.Refusing.{leave-short, leave-by}
use Rattle.receiver.proofs.refusals.may_write.Goals.{then-reply-lt-REPLY_ROOM-via-then-reply-lt-REPLY_ROOM, then-reply-lt-REPLY_ROOM-via-else-reply-lt-REPLY_ROOM+then-note-note_least}
use Rattle.receiver.proofs.refusals.may_write.Goals as goal

pub returns-then-reply-lt-REPLY_ROOM : goal.returns-then-reply-lt-REPLY_ROOM
returns-then-reply-lt-REPLY_ROOM c =
    let a = c.args in
    elim c.then-reply-lt-REPLY_ROOM.branch [
      | then-reply-lt-REPLY_ROOM-via-then-reply-lt-REPLY_ROOM w ↦
          leave-short a.setup a.reply a.note a.time.now a.allowed a.o (lt-ltb _ _ w.if-reply-lt-REPLY_ROOM.true)
      | then-reply-lt-REPLY_ROOM-via-else-reply-lt-REPLY_ROOM+then-note-note_least w ↦
          rw (le-ltb _ _ w.if-reply-lt-REPLY_ROOM.false, lt-ltb _ _ w.if-note-note_least.true) at
          (leave-by a.setup a.reply a.note a.time.now a.allowed a.o _ _ w.note_least.ensures refl refl)
    ]

pub returns-then-not-is_given : goal.returns-then-not-is_given
returns-then-not-is_given c =
    let a = c.args in
    let if1 = c.if-reply-lt-REPLY_ROOM in
    let note-least = c.note_least in
    let if2 = c.if-note-note_least in
    let is-given = c.is_given in
    rw (le-ltb _ _ if1.false, le-ltb _ _ if2.false) at
    (leave-by a.setup a.reply a.note a.time.now a.allowed a.o false _ note-least.ensures (sym (c.if-not-is_given.true) ∙ is-given.ensures) refl)

pub returns-then-not-allowed : goal.returns-then-not-allowed
returns-then-not-allowed c =
    let a = c.args in
    let if1 = c.if-reply-lt-REPLY_ROOM in
    let note-least = c.note_least in
    let if2 = c.if-note-note_least in
    let is-given = c.is_given in
    let if3 = c.if-not-is_given in
    rw (le-ltb _ _ if1.false, le-ltb _ _ if2.false) at
    (leave-by a.setup a.reply a.note a.time.now a.allowed a.o true false note-least.ensures (sym (if3.false) ∙ is-given.ensures) (sym (c.if-not-allowed.true)))

pub returns-then-o-gt-LAST_TO_SEND : goal.returns-then-o-gt-LAST_TO_SEND
returns-then-o-gt-LAST_TO_SEND c =
    let a = c.args in
    let if1 = c.if-reply-lt-REPLY_ROOM in
    let note-least = c.note_least in
    let if2 = c.if-note-note_least in
    let is-given = c.is_given in
    let if3 = c.if-not-is_given in
    let if4 = c.if-not-allowed in
    rw (le-ltb _ _ if1.false, le-ltb _ _ if2.false, lt-ltb _ _ c.if-o-gt-LAST_TO_SEND.true) at
    (leave-by a.setup a.reply a.note a.time.now a.allowed a.o true true note-least.ensures (sym (if3.false) ∙ is-given.ensures) (sym (if4.false)))

pub returns : goal.returns
returns c =
    let a = c.args in
    let if1 = c.if-reply-lt-REPLY_ROOM in
    let note-least = c.note_least in
    let if2 = c.if-note-note_least in
    let is-given = c.is_given in
    let if3 = c.if-not-is_given in
    let if4 = c.if-not-allowed in
    rw (le-ltb _ _ if1.false, le-ltb _ _ if2.false, le-ltb _ _ c.if-o-gt-LAST_TO_SEND.false) at
    (leave-by a.setup a.reply a.note a.time.now a.allowed a.o true true note-least.ensures (sym (if3.false) ∙ is-given.ensures) (sym (if4.false)))
