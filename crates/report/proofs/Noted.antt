-- The fills that a note may have are those that some good report tells of.
--     sound-told     what a report can say of a fill, some report does say, and it keeps the rules
--     noted     a fill is lawful exactly where some report tells of it, by the rules of now and by document 01's
use mathlib.Core.Path.{◌≡◌, refl, sym, ap, ◌∙◌, subst}
use mathlib.Core.Logic.{inl, ⊎_elim}
use mathlib.Core.List.{List, [], ◌∷◌}
use mathlib.Core.Option.{none}
use mathlib.Core.Bool.{Bool, true, false, cond}
use Prim.Native.Nat.{ℕ, ◌-◌, ◌≤◌}
use native.Mathlib.Omega.{arith}
use lib.ListN.{length}
use lib.Dec.{eqb}
use borrow.Author.Tests.{eqb-true, eqb-false}
use Rattle.octet.specs.Bytes.{bytes_of, all_in, until_byte, same, between}
use Rattle.octet.specs.Maybe.{first, unless}
use Rattle.octet.proofs.Cases.{bool_case}
use Rattle.octet.proofs.Lists.{until-in, between-low, between-high}
use Rattle.text.specs.Decimal.{decimal, price_text}
use Rattle.text.specs.Fields.{Field, ◌is◌, layout}
use Rattle.text.proofs.Decimals.{decimal-small, price-length, price-unmarked}
use Rattle.value.specs.Value.{number_or, price_in, is_code}
use Rattle.value.proofs.Times.{time-is, time-bytes}
use Rattle.value.proofs.Back.{decimal-formed, number-or-back, price-text-formed, price-in-back}
use Rattle.field.specs.Pieces.{Pieces, pieces_of, values_of, text_at}
use Rattle.field.specs.Look.{look_of}
use Rattle.field.specs.Written.{Each, Whole, values_with}
use Rattle.field.specs.Written as each
use Rattle.field.proofs.Written.{plain_of, whole, number-whole, values-layout, scan-layout}
use Rattle.answer.specs.declared.Setup.{Setup}
use Rattle.answer.specs.declared.Phase.{Phase}
use Rattle.answer.specs.declared.Kind.TheVariants as kind
use Rattle.table.specs.declared.Codes.TheVariants.{Side, Filled}
use Rattle.table.specs.Rows.{codes_of, kind_of, kind_in}
use Rattle.table.specs.Steps.{number_at, fault_in}
use Rattle.table.proofs.Faultless.{Counted, Coded}
use Rattle.table.proofs.Meets.{Has, ReportFields, report-meets}
use Rattle.fill.specs.Slot.{Slot, Fill, body_of, slot_of, is_fill, fill_lawful}
use Rattle.fill.proofs.Fields.{Sound}
use Rattle.fill.proofs.Lawful.{no-entry, lawful-fill}
use Rattle.fill.proofs.Again.{told_by, told-sound, slot-again}
use Rattle.fill.specs.Booked.{slot_lawful}
use Rattle.report.specs.Report.{is_crossed, rule_fault, report_of, report_in, slot_for, slot_in}
use Rattle.report.specs.Report as report
use Rattle.report.specs.Crossed.{former_fault}
use Rattle.report.specs.Noted.{Tells, IsFill, Noted}
use Rattle.report.proofs.Kept.{Kept, rules-kept, crossed_apart}
use Rattle.report.proofs.Crossed.{difference}
use Rattle.report.proofs.Lawful.{report-lawful}

-- ---- a report that tells of a fill: a part of its order, or the last of it

abbrev open_after : Fill → ℕ
open_after f = f.quantity - f.cum

-- "150 is 2 exactly when 151 is 0"
abbrev code_for : Bool → List ℕ
code_for last = cond last (bytes_of "2") (bytes_of "1")

abbrev done_by : Fill → List ℕ
done_by f = code_for (eqb (open_after f) 0)

abbrev fields_for : Fill → List Field
fields_for f =
    (35 is bytes_of "8") ∷ (52 is f.time) ∷ (17 is f.exec) ∷ (37 is f.order) ∷ (20 is bytes_of "0") ∷ (55 is f.symbol) ∷ (54 is decimal f.side)
    ∷ (38 is decimal f.quantity) ∷ (32 is decimal f.shares) ∷ (31 is price_text f.price) ∷ (14 is decimal f.cum) ∷ (151 is decimal (open_after f))
    ∷ (150 is done_by f) ∷ (39 is done_by f) ∷ (60 is f.time) ∷ []

-- a text of bytes other than 1
clear_in : (low high : ℕ) (v : List ℕ) → between low high 1 ≡ false → 1 ≤ length v → all_in low high v ≡ true → (1 ≤ length v) × (until_byte 1 v ≡ length v)
clear_in low high v out some e = (some, until-in 1 low high v e out)

side-code : (n : ℕ) → between 1 2 n ≡ true → Coded Side (decimal n)
side-code n e =
    let low = between-low 1 2 n e in
    let high = between-high 1 2 n e in
    ⊎_elim
    (λ h. ap (is_code (codes_of Side)) (ap decimal (eqb-true n 1 h) ∙ decimal-small 1 (omega arith)))
    (λ h. let two : n ≡ 2 = omega (arith, eqb-false n 1 h) in ap (is_code (codes_of Side)) (ap decimal two ∙ decimal-small 2 (omega arith)))
    (bool_case (eqb n 1))

record IsCode (last : Bool) : Type 0 where
  listed : Coded Filled (code_for last)
  says : same (bytes_of "2") (code_for last) ≡ last
  clear : (1 ≤ length (code_for last)) × (until_byte 1 (code_for last) ≡ length (code_for last))

done-code : (last : Bool) → IsCode last
done-code true = record { listed = refl; says = refl; clear = (omega arith, refl) }
done-code false = record { listed = refl; says = refl; clear = (omega arith, refl) }

module _ (f : Fill) (y : Sound f) where
  time-clear : (1 ≤ length f.time) × (until_byte 1 f.time ≡ length f.time)
  time-clear = clear_in 45 58 f.time refl (⊎_elim (λ e. omega arith) (λ e. omega arith) (time-is f.time y.time-time).lengths) (time-bytes f.time y.time-time)

  fields-whole : Each Whole (fields_for f)
  fields-whole =
      let done = (done-code (eqb (open_after f) 0)).clear in
      each.also (whole 35 (bytes_of "8") (omega arith) (omega arith) (omega arith, refl))
      (each.also (whole 52 _ (omega arith) (omega arith) time-clear)
      (each.also (whole 17 f.exec (omega arith) (omega arith) (clear_in 33 126 f.exec refl y.exec-some y.exec-graph))
      (each.also (whole 37 f.order (omega arith) (omega arith) (clear_in 33 126 f.order refl y.order-some y.order-graph))
      (each.also (whole 20 (bytes_of "0") (omega arith) (omega arith) (omega arith, refl))
      (each.also (whole 55 f.symbol (omega arith) (omega arith) (clear_in 33 126 f.symbol refl y.symbol-some y.symbol-graph))
      (each.also (number-whole 54 f.side (omega arith) (omega arith))
      (each.also (number-whole 38 f.quantity (omega arith) (omega arith))
      (each.also (number-whole 32 f.shares (omega arith) (omega arith))
      (each.also (whole 31 (price_text f.price) (omega arith) (omega arith) (omega (arith, price-length f.price), price-unmarked f.price))
      (each.also (number-whole 14 f.cum (omega arith) (omega arith))
      (each.also (number-whole 151 (open_after f) (omega arith) (omega arith))
      (each.also (whole 150 _ (omega arith) (omega arith) done)
      (each.also (whole 39 _ (omega arith) (omega arith) done)
      (each.also (whole 60 _ (omega arith) (omega arith) time-clear) each.none))))))))))))))

  abbrev ps : Pieces
  ps = pieces_of (layout (fields_for f))

  -- what stands under a tag
  values : (tag : ℕ) → values_of tag ps ≡ values_with tag (fields_for f)
  values tag = values-layout tag (plain_of fields-whole)

  text : (tag : ℕ) → text_at tag ps ≡ unless [] (first (values_with tag (fields_for f)))
  text tag = ap (λ (vs : Pieces). unless [] (first vs)) (values tag)

  module _ {Such : List ℕ → Type 0} where
    has : (tag : ℕ) (v : List ℕ) → values_with tag (fields_for f) ≡ v ∷ [] → Such v → Has ps tag Such
    has tag v e such =
        let t : text_at tag ps ≡ v = text tag ∙ ap (λ (vs : Pieces). unless [] (first vs)) e in
        record { once = values tag ∙ e ∙ sym (ap (λ (w : List ℕ). w ∷ []) t); such = subst Such (sym t) such }

  counted : (low n : ℕ) → low ≤ n → n ≤ 999999 → Counted low 999999 (decimal n)
  counted low n l h =
      let small = number-or-back n (omega arith) in
      record { formed = decimal-formed n (omega arith); least = omega arith; most = omega arith }

  fields : ReportFields ps
  fields =
      let a = y.shares-some in
      let b = y.shares-cum in
      let d = y.cum-quantity in
      let m = y.quantity-most in
      record {
        header = record {
          sound = scan-layout fields-whole;
          sent = has 52 _ refl y.time-time;
          poss_dup = inl (values 43);
          poss_resend = inl (values 97);
        };
        exec = has 17 _ refl (record { from = y.exec-some; to = y.exec-short; bytes = y.exec-graph });
        order = has 37 _ refl (record { from = y.order-some; to = y.order-short; bytes = y.order-graph });
        transaction = has 20 _ refl refl;
        symbol = has 55 _ refl (record { from = y.symbol-some; to = y.symbol-short; bytes = y.symbol-graph });
        side = has 54 _ refl (side-code f.side y.side-one);
        quantity = has 38 _ refl (counted 1 f.quantity (omega arith) m);
        shares = has 32 _ refl (counted 1 f.shares a (omega arith));
        price = has 31 _ refl (price-text-formed f.price (omega (arith, y.price-most)));
        cum = has 14 _ refl (counted 1 f.cum (omega arith) (omega arith));
        leaves = has 151 _ refl (counted 0 (open_after f) (omega arith) (omega arith));
        exec_type = has 150 _ refl (done-code (eqb (open_after f) 0)).listed;
        status = has 39 _ refl tt;
        time = has 60 _ refl y.time-time;
        legs = inl (values 442);
      }

  -- ---- and what it says

  numbered : (tag n : ℕ) → values_with tag (fields_for f) ≡ decimal n ∷ [] → n ≤ 999999 → number_at tag ps ≡ n
  numbered tag n e h = ap number_or (text tag ∙ ap (λ (vs : Pieces). unless [] (first vs)) e) ∙ number-or-back n (omega arith)

  keeps : Kept (report_in ps)
  unfolding report_of
  keeps =
      let b = y.shares-cum in
      let d = y.cum-quantity in
      let m = y.quantity-most in
      let quantity = numbered 38 f.quantity refl m in
      let shares = numbered 32 f.shares refl (omega arith) in
      let cum = numbered 14 f.cum refl (omega arith) in
      let leaves = numbered 151 (open_after f) refl (omega arith) in
      record {
        shares-cum = omega arith;
        cum-quantity = omega arith;
        rest = inl (record {
          leaves = omega arith;
          done = ap (same (bytes_of "2")) (text 150) ∙ (done-code (eqb (open_after f) 0)).says ∙ ap (λ (n : ℕ). eqb n 0) (sym leaves);
          status = text 39 ∙ sym (text 150);
        });
      }

  fill-said : report.fill_of (look_of ps) ≡ f
  fill-said =
      let b = y.shares-cum in
      let d = y.cum-quantity in
      let m = y.quantity-most in
      let sides = between-high 1 2 f.side y.side-one in
      let price : price_in (text_at 31 ps) ≡ f.price = ap price_in (text 31) ∙ price-in-back f.price (omega (arith, y.price-most)) in
      rw (
        text 17,
        text 37,
        text 55,
        numbered 54 f.side refl (omega arith),
        numbered 38 f.quantity refl m,
        numbered 32 f.shares refl (omega arith),
        price,
        numbered 14 f.cum refl (omega arith),
        text 60,
      )

  slot-said : slot_in ps ≡ slot_of (body_of f)
  unfolding slot_for
  slot-said = ap (λ (g : Fill). slot_of (body_of g)) fill-said

  module _ (setup : Setup) (phase : Phase) (o : ℕ) where
    is-report : kind_in setup ps ≡ kind.Report
    unfolding kind_of
    is-report = ap (kind_of setup) (text 35)

    faultless : fault_in setup phase o ps ≡ none
    faultless = report-meets setup phase o ps is-report fields

    -- it keeps the rules, and document 01's: 39 is 150's
    pub sound-told : Tells rule_fault setup phase o (slot_of (body_of f))
    sound-told = record {
      body = layout (fields_for f);
      type = is-report;
      faultless = faultless;
      kept = rules-kept (report_in ps) keeps;
      alone = ap first (values 442);
      fill = slot-said;
    }

    pub sound-told-before : Tells former_fault setup phase o (slot_of (body_of f))
    unfolding report_of
    sound-told-before =
        let apart = crossed_apart (text_at 150 ps) (text_at 39 ps) (text 39 ∙ sym (text 150)) in
        record {
          body = layout (fields_for f);
          type = is-report;
          faultless = faultless;
          kept = sym ((difference (report_in ps)).same' apart) ∙ rules-kept (report_in ps) keeps;
          alone = ap first (values 442);
          fill = slot-said;
        }

-- ---- exactly these

module _ (setup : Setup) (phase : Phase) (o : ℕ) (s : Slot) where
  -- what a good report tells of is lawful
  told-lawful : Tells rule_fault setup phase o s → is_fill s ≡ true → fill_lawful s ≡ true
  told-lawful t fill =
      sym (lawful-fill s (no-entry s fill))
      ∙ subst (λ (x : Slot). slot_lawful x ≡ true) t.fill (report-lawful setup phase o (pieces_of t.body) t.faultless t.type t.kept).lawful

  -- what document 01's rules pass, those of now pass
  since : Tells former_fault setup phase o s → Tells rule_fault setup phase o s
  since t =
      let r = report_in (pieces_of t.body) in
      let x = is_crossed r.exec_type r.status in
      record {
        body = t.body;
        type = t.type;
        faultless = t.faultless;
        kept = ⊎_elim (λ h. absurd ((difference r).before h t.kept)) (λ h. (difference r).same' h ∙ t.kept) (bool_case x);
        alone = t.alone;
        fill = t.fill;
      }

  pub noted : IsFill s → Noted setup phase o s
  noted i =
      let again : fill_lawful s ≡ true → slot_of (body_of (told_by s)) ≡ s = λ law. slot-again s i.wide law i.marked i.bytes in
      record {
        now = (
          λ law. subst (Tells rule_fault setup phase o) (again law) (sound-told (told_by s) (told-sound s i.wide law) setup phase o),
          λ t. told-lawful t i.marked,
        );
        before = (
          λ law. subst (Tells former_fault setup phase o) (again law) (sound-told-before (told_by s) (told-sound s i.wide law) setup phase o),
          λ t. told-lawful (since t) i.marked,
        );
      }
