-- Request C-12, "A fill that crossed a cancel": what it changed, exactly. The four rules as document 01 has them stand here for these statements alone.
use Rattle.std.specs.Prelude.{◌-◌, ◌≡◌, true, false, eqb}
use Rattle.std.proofs.Math.Option.{Option, none}
use Rattle.std.specs.Bool.{beq}
use Rattle.octet.specs.Bytes.{between, same, is}
use Rattle.octet.specs.Maybe.{or_else}
use Rattle.answer.specs.declared.Fault.{Fault}
use Rattle.report.specs.Report.{Report, is_crossed, cum_ok, unless_kept, rule_fault}

-- "14 between 32's and 38's; 151 = 38 − 14; 150 is 2 exactly when 151 is 0; 39 equals 150"
abbrev pub former_fault : Report → Option Fault
former_fault r =
    let n = r.sums in
    or_else (unless_kept 14 (between n.shares n.quantity n.cum))
    (or_else (unless_kept 151 (eqb n.leaves (n.quantity - n.cum)))
    (or_else (unless_kept 150 (beq (is "2" r.exec_type) (eqb n.leaves 0))) (unless_kept 39 (same r.status r.exec_type))))

-- a report that did not cross a cancel is judged as before. One that did was rejected whatever it said; now it is where 14 breaks its rule, with tag 14, else where 151 is not 0,
-- with tag 151, and else not
pub record Difference (r : Report) : Type 0 where
  pub same' : is_crossed r.exec_type r.status ≡ false → rule_fault r ≡ former_fault r
  pub before : is_crossed r.exec_type r.status ≡ true → ¬ (former_fault r ≡ none)
  pub now : is_crossed r.exec_type r.status ≡ true → rule_fault r ≡ or_else (unless_kept 14 (cum_ok r.sums)) (unless_kept 151 (eqb r.sums.leaves 0))
