-- The tally counts what the message calls answered.
--     after     the tally after one answer
--     none-heard, heard-more     after no answer, and after those that were heard and one more
use Prim.Native.Nat.{ℕ, ◌+◌, ◌≤◌}
use mathlib.Core.Path.{◌≡◌, refl, sym, subst}
use mathlib.Core.List.{List, [], ◌∷◌, ◌++◌, append-nil}
use mathlib.Core.Option.{Option, none, some}
use mathlib.Core.Bool.{Bool, true, false, cond}
use native.Mathlib.Omega.{arith}
use Rattle.answer.specs.Numbers.{largest, counted}
use Rattle.answer.specs.declared.Outcome.{Outcome}
use Rattle.answer.specs.declared.Outcome.TheVariants as outcome
use Rattle.tally.specs.Tally.{up, one_booked, one_already, one_rejected, one_garbled}
use Rattle.tally.specs.declared.Tally.{Tally}
use Rattle.receiver.specs.Receiver.{What, tally_after}
use Rattle.receiver.specs.declared.Answer.{Answer}
use Rattle.receiver.specs.declared.Answer.TheVariants.{Done, Refused, More, Garbled, Framed, Offered, None, Acked, Already, Restarted}
use Rattle.promise.specs.Sort.{where_given, sort_of, is_booked, is_already, is_rejected, is_garbled}
use Rattle.promise.specs.Held.{FourBytes, how_many, Counts}

-- a message call brings the tally up to date, another call is not lent it
abbrev pub tally_by : What → Answer → Tally → Tally
tally_by w a t = where_given t (λ (s : List ℕ). tally_after a t) (sort_of w).message

-- ---- one answer

-- each count is raised by 1, or by 0
record Raised (b a r g : Bool) (t t' : Tally) : Type 0 where
  booked : t'.booked ≡ counted t.booked (cond b 1 0)
  already : t'.already ≡ counted t.already (cond a 1 0)
  rejected : t'.rejected ≡ counted t.rejected (cond r 1 0)
  garbled : t'.garbled ≡ counted t.garbled (cond g 1 0)

module _ (t : Tally) (f : FourBytes t) where
  same : (n : ℕ) → n ≤ largest → n ≡ counted n 0
  same n l = omega arith

  idle : Raised false false false false t t
  idle = record { booked = same _ f.0; already = same _ f.1; rejected = same _ f.2; garbled = same _ f.3 }

  books : Raised true false false false t (one_booked t)
  unfolding up
  books = record { booked = refl; already = same _ f.1; rejected = same _ f.2; garbled = same _ f.3 }

  knows : Raised false true false false t (one_already t)
  unfolding up
  knows = record { booked = same _ f.0; already = refl; rejected = same _ f.2; garbled = same _ f.3 }

  rejects : Raised false false true false t (one_rejected t)
  unfolding up
  rejects = record { booked = same _ f.0; already = same _ f.1; rejected = refl; garbled = same _ f.3 }

  garbles : Raised false false false true t (one_garbled t)
  unfolding up
  garbles = record { booked = same _ f.0; already = same _ f.1; rejected = same _ f.2; garbled = refl }

  framed : (len : ℕ) (o : Outcome) → let a = Framed len o in Raised (is_booked a) (is_already a) (is_rejected a) (is_garbled a) t (tally_after a t)
  framed len outcome.Ended = idle
  framed len (outcome.Rejected x) = rejects
  framed len (outcome.RejectedEnded x) = rejects
  framed len outcome.Dropped = idle
  framed len outcome.Gap = idle
  framed len outcome.In = idle
  framed len outcome.Heard = idle
  framed len outcome.Echoed = idle
  framed len outcome.Filled = idle
  framed len (outcome.Moved n) = idle
  framed len outcome.Aside = idle
  framed len outcome.Already = knows
  framed len (outcome.Booked n stepped) = books
  framed len (outcome.Entered n) = books

  after : (a : Answer) → Raised (is_booked a) (is_already a) (is_rejected a) (is_garbled a) t (tally_after a t)
  after Done = idle
  after (Refused why) = idle
  after More = idle
  after (Garbled skip) = garbles
  after (Framed len o) = framed len o
  after Offered = idle
  after None = idle
  after Acked = idle
  after Already = idle
  after (Restarted whole) = idle

-- ---- one answer more

how_many-more : (is : Answer → Bool) (xs : List Answer) (a : Answer) → how_many is (xs ++ (a ∷ [])) ≡ how_many is xs + cond (is a) 1 0
how_many-more is [] a = refl
how_many-more is (x ∷ xs) a = let ih = how_many-more is xs a in omega arith

counted-more : (is : Answer → Bool) (xs : List Answer) (a : Answer) (n k l : ℕ) → k ≡ counted n (how_many is xs) → l ≡ counted k (cond (is a) 1 0)
    → l ≡ counted n (how_many is (xs ++ (a ∷ [])))
counted-more is xs a n k l e f = let h = how_many-more is xs a in omega arith

small : (l k i : ℕ) → l ≡ counted k i → l ≤ largest
small l k i e = omega arith

pub none-heard : (t : Tally) → FourBytes t → Counts t [] t
none-heard t f = record { booked = same t f _ f.0; already = same t f _ f.1; rejected = same t f _ f.2; garbled = same t f _ f.3 }

pub heard-more : (was : Tally) (xs : List Answer) (t : Tally) (o : Option (List ℕ)) (a : Answer) → FourBytes t → Counts was xs t
    → let t' = where_given t (λ (s : List ℕ). tally_after a t) o in FourBytes t' × Counts was (xs ++ where_given [] (λ (s : List ℕ). a ∷ []) o) t'
heard-more was xs t none a f c = (f, subst (λ (xs : List Answer). Counts was xs t) (sym (append-nil xs)) c)
heard-more was xs t (some s) a f c =
    let r = after t f a in (
      (small _ _ _ r.booked, small _ _ _ r.already, small _ _ _ r.rejected, small _ _ _ r.garbled),
      record {
        booked = counted-more is_booked xs a _ _ _ c.booked r.booked;
        already = counted-more is_already xs a _ _ _ c.already r.already;
        rejected = counted-more is_rejected xs a _ _ _ c.rejected r.rejected;
        garbled = counted-more is_garbled xs a _ _ _ c.garbled r.garbled;
      },
    )
