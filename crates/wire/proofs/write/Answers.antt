-- `wire::write` meets its contract: the body is whole, and so is the message, since both are short.
use Rattle.std.proofs.Common.{◌≡◌, ℕ, ◌≤◌, ◌<◌, ◌^◌, List, length, ap, ◌∙◌, append_assoc, arith, length-take, rules}
use Rattle.text.specs.Fields.{layout}
use Rattle.text.specs.Writing.{empty, puts, held}
use Rattle.text.specs.declared.Text.{Text}
use Rattle.text.proofs.Puts.{puts-puts, held-short}
use Rattle.text.proofs.Layouts.{layout-append}
use Rattle.answer.specs.declared.Setup.{Setup}
use Rattle.frame.specs.Finding.{opening}
use Rattle.wire.specs.declared.Say.{Say}
use Rattle.wire.specs.Messages.{framed, header_of, fields_of, lead_of, dated_of, others_of, message_of}
use Rattle.wire.specs.Sending.{Small}
use Rattle.wire.proofs.Bounds.{body-short, framed-length}
use Rattle.wire.proofs.write.Goals as goal

module _ (s : Setup) (o : ℕ) (time word : List ℕ) (say : Say) where
  abbrev Body : List ℕ
  Body = layout (fields_of s o time word say)

  -- what the body's text holds
  body : (t u v w : Text) → length s.ours.bytes ≡ 16 → length s.theirs.bytes ≡ 16 → o < 2 ^ 32
      → t ≡ empty → u ≡ puts t (layout (lead_of s o say)) → v ≡ puts u (layout (dated_of time say))
      → (w ≡ puts v (layout (others_of o word say))) × Small say → (held w ≡ Body) × (length Body ≤ 201)
  unfolding header_of
  body t u v w f g h p q k l =
      let short : length Body ≤ 201 = body-short s (simp length-take (omega arith)) (simp length-take (omega arith)) o h time say l.1 word in
      let whole : w ≡ puts empty Body = simp (l.0, k, q, p, puts-puts, layout-append, append_assoc) in
      (ap held whole ∙ held-short Body (omega arith), short)

  -- what the message's text holds
  message : (b : List ℕ) (t : Text) → (b ≡ Body) × (length Body ≤ 201) → t ≡ puts empty (framed opening b)
      → (held t ≡ framed opening Body) × (length (framed opening Body) ≤ 224)
  message b t e p =
      let short : length (framed opening Body) ≤ 224 = omega (arith, framed-length opening Body (omega (arith, e.1)), e.1) in
      (ap held p ∙ rw e.0 (held-short (framed opening Body) (omega arith)), short)

pub frame-requires-clause-short : goal.frame-requires-clause-short
frame-requires-clause-short c =
    let a = c.args in
    let b = body a.setup a.o a.time.now a.word.now a.say _ _ _ _ (search rules) (search rules) (omega arith)
    c.new-body.ensures c.lead.ensures c.with_date.ensures c.with_others.ensures in
    rw (c.held.ensures ∙ b.0) (omega (arith, b.1))

pub returns : goal.returns
unfolding message_of
returns c =
    let a = c.args in
    let b = body a.setup a.o a.time.now a.word.now a.say _ _ _ _ (search rules) (search rules) (omega arith)
    c.new-body.ensures c.lead.ensures c.with_date.ensures c.with_others.ensures in
    let m = message a.setup a.o a.time.now a.word.now a.say _ _ (c.held.ensures ∙ b.0, b.1) c.frame.ensures in
    record {
      bytes = rw m.0 at c.place.ensures.dst_after;
      end = rw m.0 at c.place.ensures.value;
      short = omega (arith, m.1);
    }
