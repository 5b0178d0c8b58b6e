-- A refused call answers the number of the first row of the paper's table that holds.
use Prim.Native.Nat.{ℕ}
use mathlib.Core.Path.{◌≡◌, refl, ap, ◌∙◌}
use mathlib.Core.List.{List, [], ◌∷◌}
use mathlib.Core.Option.{Option, none, some}
use mathlib.Core.Bool.{Bool, true, false, cond, ◌||◌, not}
use Rattle.octet.specs.Maybe.{or_else, is_none}
use Rattle.answer.specs.Numbers.{refusal_number}
use Rattle.answer.specs.declared.Setup.{Setup}
use Rattle.answer.specs.declared.Refusal.{Refusal}
use Rattle.answer.specs.declared.Refusal.TheVariants as refusal
use Rattle.restart.specs.Restart.{Outcome, Again, Unlawful, restart, told, refused_by}
use Rattle.tally.specs.declared.Tally.{Tally}
use Rattle.receiver.specs.State.{State}
use Rattle.receiver.specs.Receiver.{What, Lent, refuse, call}
use Rattle.promise.specs.Sort.{where_given, sort_of, refused_with}
use Rattle.promise.specs.Demand1.{too_short, mistimed, wrong_phase, numbers_used, no_room, not_offered, still_waiting, unlawful_note, bad_id, table, first_there}
use Rattle.promise.specs.Numbered.{holding, first_row, column_no, Numbered}
use Rattle.promise.proofs.Refusing.{demand1, setting_up_lem}

-- a row, and the rows after it
row : (why : Refusal) (t : Bool) (rest : Option Refusal) (n : Option ℕ) → column_no rest ≡ n
    → column_no (or_else (refuse why t) rest) ≡ cond t (some (refusal_number why)) n
row why true rest n e = refl
row why false rest n e = e

last_row : (r : Outcome) → column_no (or_else (refused_by (told r)) none) ≡ cond (not (is_none (refused_by (told r)))) (some 8) none
last_row (Again q whole) = refl
last_row (Unlawful at) = refl

noted : (w : What) → column_no (or_else (unlawful_note w) none) ≡ cond (not (is_none (unlawful_note w))) (some 8) none
noted w = go (sort_of w).notes
  where
    go : (o : Option (List ℕ)) → let r = where_given none (λ (notes : List ℕ). refused_by (told (restart notes))) o in column_no (or_else r none) ≡ cond (not (is_none r)) (some 8) none
    go none = refl
    go (some notes) = last_row (restart notes)

module _ (setup : Setup) (st : State) (b : Lent) (t : Tally) (w : What) where
  rows : column_no (first_there (table setup st b w)) ≡ first_row 1 (holding setup st b w)
  rows =
      row refusal.ShortBuffer (too_short b w) _ _
      (row refusal.BadTime (mistimed w) _ _
      (row refusal.WrongPhase (wrong_phase st w) _ _
      (row refusal.NumbersUsed (numbers_used st w) _ _
      (row refusal.NoRoom (no_room setup st w) _ _
      (row refusal.NotOffered (not_offered st w) _ _
      (row refusal.StillWaiting (still_waiting st w) _ _ (noted w)))))))

  calls : column_no (refused_with (call setup st b t w).did.answer) ≡ first_row 1 (holding setup st b w)
  calls = ap column_no (demand1 setup st b t w).first ∙ rows

row9 : (bad : Bool) → column_no (refuse refusal.BadId bad) ≡ first_row 9 (bad ∷ [])
row9 true = refl
row9 false = refl

pub numbered : Numbered
numbered = record {
  calls = calls;
  set_up = λ ours theirs. ap column_no (setting_up_lem ours theirs) ∙ row9 (bad_id ours || bad_id theirs);
}
