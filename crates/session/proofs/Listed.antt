-- The session reads listed tags alone, so that a look at these tells the same.
--     facts-listed     what the steps read off a message
--     word-listed     the value that a reply repeats
use mathlib.Core.Path.{◌≡◌, refl, ap}
use mathlib.Core.Bool.{Bool, true, false, cond}
use mathlib.Core.Option.{Option}
use Rattle.field.specs.Index.{listed, position, column_of, is_listed}
use Rattle.field.specs.Look.{Look, first, at_listed}
use Rattle.field.specs.Pieces.{Scan}
use Rattle.field.proofs.Looks.{text-listed}
use Rattle.table.specs.Rows.{kind_by}
use Rattle.table.specs.Steps.{number_of, given_of}
use Rattle.table.proofs.Listed.{first-fault-listed}
use Rattle.answer.specs.declared.Setup.{Setup}
use Rattle.answer.specs.declared.Fault.{Fault}
use Rattle.wire.specs.declared.Reply.{Reply}
use Rattle.wire.specs.declared.Reply.TheVariants.{Nothing, One, Two}
use Rattle.session.specs.declared.Session.{Session}
use Rattle.session.specs.Reading.{Facts, seq_given, ids_given, yes, facts_of}
use Rattle.session.specs.Judging.{echoes, word_tag}

module _ (look : Look) where
  pub facts-listed : (setup : Setup) (s : Session) (scan : Scan) → facts_of setup s scan (at_listed look) ≡ facts_of setup s scan look
  unfolding facts_of at_listed column_of position listed
  facts-listed setup s scan = ap with-fault (first-fault-listed setup (given_of s.phase s.o) scan (kind_by setup look) look)
    where
      with-fault : Option Fault → Facts
      with-fault o = record {
        kind = kind_by setup look;
        seq = seq_given (first look 34);
        ids = ids_given setup (first look 49) (first look 56);
        fault = o;
        again = yes (first look 43);
        filling = yes (first look 123);
        from = number_of look 7;
        up_to = number_of look 16;
        to = number_of look 36;
      }

  word-told : (b : Bool) → is_listed (cond b 112 35) ≡ true
  unfolding column_of position listed
  word-told true = refl
  word-told false = refl

  pub word-listed : (reply : Reply) → (at_listed look).text (word_tag reply) ≡ look.text (word_tag reply)
  word-listed Nothing = text-listed look 35 (word-told false)
  word-listed (One say) = text-listed look (word_tag (One say)) (word-told (echoes say))
  word-listed (Two a b) = text-listed look 35 (word-told false)
