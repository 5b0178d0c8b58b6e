-- "Call refusals", by the column "No.": a refused call answers the number of the first row that holds; and a refused setting up, 9.
use Rattle.std.specs.Prelude.{ℕ, ◌+◌, List, [], ◌∷◌, ◌≡◌, Bool, cond, ◌||◌, not}
use Rattle.std.proofs.Math.Option.{Option, none, some}
use Rattle.octet.specs.Maybe.{is_none}
use Rattle.answer.specs.Numbers.{refusal_number}
use Rattle.answer.specs.declared.Setup.{Setup}
use Rattle.answer.specs.declared.Refusal.{Refusal}
use Rattle.receiver.specs.State.{State}
use Rattle.tally.specs.declared.Tally.{Tally}
use Rattle.receiver.specs.Receiver.{What, Lent, call, setting_up}
use Rattle.promise.specs.Sort.{refused_with}
use Rattle.promise.specs.Demand1.{too_short, mistimed, wrong_phase, numbers_used, no_room, not_offered, still_waiting, unlawful_note, bad_id, refused_for}

-- the column "When", rows 1 to 8
abbrev pub holding : Setup → State → Lent → What → List Bool
holding setup st b w =
    too_short b w ∷ mistimed w ∷ wrong_phase st w ∷ numbers_used st w ∷ no_room setup st w ∷ not_offered st w ∷ still_waiting st w
    ∷ not (is_none (unlawful_note w)) ∷ []

-- the number of the first row that holds, where the first of these is numbered n
abbrev pub first_row : ℕ → List Bool → Option ℕ
first_row n [] = none
first_row n (t ∷ ts) = let rest = first_row (n + 1) ts in cond t (some n) rest

abbrev pub column_no : Option Refusal → Option ℕ
column_no none = none
column_no (some why) = some (refusal_number why)

-- rows 1 to 8, of any call; and row 9, of setting up
pub record Numbered : Type 0 where
  pub calls : (setup : Setup) (st : State) (b : Lent) (t : Tally) (w : What) → column_no (refused_with (call setup st b t w).did.answer) ≡ first_row 1 (holding setup st b w)
  pub set_up : (ours theirs : List ℕ) → column_no (refused_for (setting_up ours theirs)) ≡ first_row 9 ((bad_id ours || bad_id theirs) ∷ [])
