-- What the four rules and the answer over them say.
--     kept, rules-kept     a report has no fault by the rules exactly where it keeps all four, those of a fill that crossed a cancel among them
--     crossed-is, is-crossed, crossed_apart     what it is that a fill crossed
--     faulty-told, aside-told, fill-told     what each answer means
--     tells-faulty, tells-aside, tells-fill     when each answer is given
--     good-fill, fill-keeps     the same on the pieces of a body
use Rattle.std.specs.Prelude.{Ok, Err}
use mathlib.Core.Path.{◌≡◌, refl, sym, ap, ◌∙◌, subst}
use mathlib.Core.List.{List}
use mathlib.Core.Logic.{◌⊎◌, inl, inr, ⊎_elim}
use mathlib.Core.Option.{Option, none, some}
use mathlib.Core.Bool.{Bool, true, false, not, beq}
use Prim.Native.Nat.{ℕ, ◌-◌, ◌≤◌}
use native.Mathlib.Omega.{arith}
use lib.Dec.{eqb}
use borrow.Author.Tests.{eqb-true, eq-eqb}
use Rattle.octet.specs.Bytes.{bytes_of, is}
use Rattle.octet.specs.Maybe.{is_none, or_else}
use Rattle.octet.proofs.Cases.{true-not-false, and_both, and-make, bool_case, or_else-neither}
use Rattle.octet.proofs.Lists.{same_true, same_of, is-between, between-low, between-high}
use Rattle.field.specs.Pieces.{Pieces, first_of}
use Rattle.field.specs.Look.{Look, look_of}
use Rattle.field.proofs.Looks.{missing-of}
use Rattle.answer.specs.declared.Fault.{Fault}
use Rattle.report.specs.declared.Reported.TheVariants.{Aside}
use Rattle.report.specs.declared.Reported.TheVariants as reported
use Rattle.report.specs.Report.{Report, Said, is_crossed, cum_ok, leaves_ok, tied, status_ok, unless_kept, rule_fault, is_aside, after_rules, reported_of, report_of, report_in, reported_in}

-- "151 = 38 − 14; 150 is 2 exactly when 151 is 0; 39 equals 150"
pub record Plainly (r : Report) : Type 0 where
  pub leaves : r.sums.leaves ≡ r.sums.quantity - r.sums.cum
  pub done : is "2" r.exec_type ≡ eqb r.sums.leaves 0
  pub status : r.status ≡ r.exec_type

-- "39=4 is taken with 150=1, then 151 must be 0"
pub record Crossing (r : Report) : Type 0 where
  pub status : r.status ≡ bytes_of "4"
  pub exec_type : r.exec_type ≡ bytes_of "1"
  pub leaves : r.sums.leaves ≡ 0

-- "14 between 32's and 38's", and one of the two
pub record Kept (r : Report) : Type 0 where
  pub shares-cum : r.sums.shares ≤ r.sums.cum
  pub cum-quantity : r.sums.cum ≤ r.sums.quantity
  pub rest : Plainly r ⊎ Crossing r

abbrev broken : Bool → Bool → Bool → Bool → Option Fault
broken a b d e = or_else (unless_kept 14 a) (or_else (unless_kept 151 b) (or_else (unless_kept 150 d) (unless_kept 39 e)))

is-kept : (tag : ℕ) (kept : Bool) → unless_kept tag kept ≡ none → kept ≡ true
is-kept tag true e = refl
is-kept tag false e = absurd (let z : ◌≡◌ {A = ℕ} 0 1 = cc in omega arith)

-- no rule of four is broken
pub all-kept : (a b d e : Bool) → broken a b d e ≡ none → (a ≡ true) × (b ≡ true) × (d ≡ true) × (e ≡ true)
all-kept a b d e z =
    let one = or_else-neither (unless_kept 14 a) _ z in
    let two = or_else-neither (unless_kept 151 b) _ one.1 in
    let three = or_else-neither (unless_kept 150 d) _ two.1 in
    (is-kept 14 a one.0, is-kept 151 b two.0, is-kept 150 d three.0, is-kept 39 e three.1)

both_so : (p q : Bool) → beq p q ≡ true → p ≡ q
both_so true true e = refl
both_so true false e = sym e
both_so false true e = e
both_so false false e = refl

so-both : (p : Bool) → beq p p ≡ true
so-both true = refl
so-both false = refl

abbrev Told : Bool → Option Fault → Said → Type 0
Told aside o (Err f) = o ≡ some f
Told aside o (Ok Aside) = (o ≡ none) × (aside ≡ true)
Told aside o (Ok reported.Fill) = (o ≡ none) × (aside ≡ false)

told-by : (aside : Bool) (o : Option Fault) → Told aside o (after_rules aside o)
told-by aside (some f) = refl
told-by true none = (refl, refl)
told-by false none = (refl, refl)

-- ---- what it is that a fill crossed
pub crossed-is : (kind status : List ℕ) → is_crossed kind status ≡ true → (status ≡ bytes_of "4") × (kind ≡ bytes_of "1")
crossed-is kind status e =
    let both = and_both (is "4" status) (is "1" kind) e in
    (sym (same_true _ _ both.0), sym (same_true _ _ both.1))

pub is-crossed : (kind status : List ℕ) → status ≡ bytes_of "4" → kind ≡ bytes_of "1" → is_crossed kind status ≡ true
is-crossed kind status e f = and-make (is "4" status) (is "1" kind) (same_of _ _ (sym e)) (same_of _ _ (sym f))

-- where 39 equals 150, it did not
pub crossed_apart : (kind status : List ℕ) → status ≡ kind → is_crossed kind status ≡ false
crossed_apart kind status e =
    ⊎_elim
    (λ h. let x = crossed-is kind status h in true-not-false (ap (is "4") (sym x.0 ∙ e ∙ x.1)))
    (λ h. h)
    (bool_case (is_crossed kind status))

module _ (r : Report) where
  abbrev crossed : Bool
  crossed = is_crossed r.exec_type r.status

  plainly : crossed ≡ false → leaves_ok crossed r.sums ≡ true → tied crossed r.sums r.exec_type ≡ true → status_ok crossed r.exec_type r.status ≡ true
      → Plainly r
  plainly h = rw h (λ a b c. record { leaves = eqb-true _ _ a; done = both_so _ _ b; status = same_true _ _ c })

  crossing : crossed ≡ true → leaves_ok crossed r.sums ≡ true → Crossing r
  crossing h = let x = crossed-is r.exec_type r.status h in rw h (λ a. record { status = x.0; exec_type = x.1; leaves = eqb-true _ _ a })

  pub kept : rule_fault r ≡ none → Kept r
  unfolding rule_fault
  kept e =
      let n = r.sums in
      let all = all-kept (cum_ok n) (leaves_ok crossed n) (tied crossed n r.exec_type) (status_ok crossed r.exec_type r.status) e in
      record {
        shares-cum = between-low n.shares n.quantity n.cum all.0;
        cum-quantity = between-high n.shares n.quantity n.cum all.0;
        rest = ⊎_elim (λ h. inr (crossing h all.1)) (λ h. inl (plainly h all.1 all.2 all.3)) (bool_case crossed);
      }

  pub rules-kept : Kept r → rule_fault r ≡ none
  unfolding rule_fault
  rules-kept k =
      let n = r.sums in
      let cum = is-between n.shares n.quantity n.cum k.shares-cum k.cum-quantity in
      ⊎_elim
      (λ p. rw (
        cum,
        crossed_apart r.exec_type r.status p.status,
        eq-eqb n.leaves (n.quantity - n.cum) p.leaves,
        ap (λ (t : Bool). beq t (eqb n.leaves 0)) p.done ∙ so-both (eqb n.leaves 0),
        same_of r.status r.exec_type p.status,
      ))
      (λ x. rw (cum, is-crossed r.exec_type r.status x.status x.exec_type, eq-eqb n.leaves 0 x.leaves))
      k.rest

-- what each answer means, and when it is given
module _ (look : Look) where
  pub faulty-told : (f : Fault) → reported_of look ≡ Err f → rule_fault (report_of look) ≡ some f
  unfolding reported_of
  faulty-told f e = subst (Told (is_aside look) (rule_fault (report_of look))) e (told-by (is_aside look) (rule_fault (report_of look)))

  pub aside-told : reported_of look ≡ Ok Aside → (rule_fault (report_of look) ≡ none) × (is_aside look ≡ true)
  unfolding reported_of
  aside-told e = subst (Told (is_aside look) (rule_fault (report_of look))) e (told-by (is_aside look) (rule_fault (report_of look)))

  pub fill-told : reported_of look ≡ Ok reported.Fill → (rule_fault (report_of look) ≡ none) × (is_aside look ≡ false)
  unfolding reported_of
  fill-told e = subst (Told (is_aside look) (rule_fault (report_of look))) e (told-by (is_aside look) (rule_fault (report_of look)))

  pub tells-faulty : (f : Fault) → rule_fault (report_of look) ≡ some f → reported_of look ≡ Err f
  unfolding reported_of
  tells-faulty f e = rw e

  pub tells-aside : rule_fault (report_of look) ≡ none → is_aside look ≡ true → reported_of look ≡ Ok Aside
  unfolding reported_of
  tells-aside e f = rw (e, f)

  pub tells-fill : rule_fault (report_of look) ≡ none → is_aside look ≡ false → reported_of look ≡ Ok reported.Fill
  unfolding reported_of
  tells-fill e f = rw (e, f)

-- ---- on the pieces of a body

module _ (ps : Pieces) where
  -- "A report with 442"
  pub aside-is : is_aside (look_of ps) ≡ not (is_none (first_of 442 ps))
  aside-is = ap not (missing-of ps 442)

  -- a report that keeps the rules and has no 442 tells of a fill
  pub good-fill : Kept (report_in ps) → first_of 442 ps ≡ none → reported_in ps ≡ Ok reported.Fill
  good-fill k e = tells-fill (look_of ps) (rules-kept (report_in ps) k) (aside-is ∙ ap (λ (o : Option (List ℕ)). not (is_none o)) e)

  -- one that tells of a fill keeps them
  pub fill-keeps : reported_in ps ≡ Ok reported.Fill → Kept (report_in ps)
  fill-keeps e = kept (report_in ps) (fill-told (look_of ps) e).0
