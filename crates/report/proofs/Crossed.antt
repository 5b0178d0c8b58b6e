-- Request C-12 changed this and nothing else.
--     difference     the rules of now beside document 01's
use mathlib.Core.Path.{◌≡◌}
use mathlib.Core.Logic.{⊎_elim}
use mathlib.Core.Option.{none}
use mathlib.Core.Bool.{Bool, true, false, beq}
use Prim.Native.Nat.{◌-◌}
use lib.Dec.{eqb}
use Rattle.octet.specs.Bytes.{same, is}
use Rattle.octet.specs.Maybe.{or_else}
use Rattle.octet.proofs.Cases.{contrary, bool_case, or_else-none}
use Rattle.octet.proofs.Lists.{same_true}
use Rattle.report.specs.Report.{Report, is_crossed, cum_ok, unless_kept, rule_fault}
use Rattle.report.specs.Crossed.{former_fault, Difference}
use Rattle.report.proofs.Kept.{all-kept, crossed_apart}

module _ (r : Report) where
  abbrev crossed : Bool
  crossed = is_crossed r.exec_type r.status

  unlike : crossed ≡ true → same r.status r.exec_type ≡ false
  unlike h =
      ⊎_elim
      (λ e. contrary h (crossed_apart r.exec_type r.status (same_true r.status r.exec_type e)))
      (λ e. e)
      (bool_case (same r.status r.exec_type))

  -- the last of document 01's rules is broken
  rejected : crossed ≡ true → ¬ (former_fault r ≡ none)
  rejected h e = let n = r.sums in
      contrary
      (all-kept (cum_ok n) (eqb n.leaves (n.quantity - n.cum)) (beq (is "2" r.exec_type) (eqb n.leaves 0)) (same r.status r.exec_type) e).3
      (unlike h)

  judged-same : crossed ≡ false → rule_fault r ≡ former_fault r
  unfolding rule_fault
  judged-same h = rw h

  judged-now : crossed ≡ true → rule_fault r ≡ or_else (unless_kept 14 (cum_ok r.sums)) (unless_kept 151 (eqb r.sums.leaves 0))
  unfolding rule_fault
  judged-now h = rw (h, or_else-none (unless_kept 151 (eqb r.sums.leaves 0)))

  pub difference : Difference r
  difference = record { same' = judged-same; before = rejected; now = judged-now }
