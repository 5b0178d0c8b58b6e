use mathlib.Core.Path.{sym, ◌∙◌}
use Rattle.octet.proofs.Cases.{cond-false, and-no-left, and-no-right}
use Rattle.receiver.specs.Receiver.{setting_up}
use Rattle.receiver.proofs.setting_up.set_up.Goals.{else-good_id-via-then-good_id+else-good_id-2, else-good_id-via-else-good_id}
use Rattle.receiver.proofs.setting_up.set_up.Goals as goal

pub returns-then-good_id-2 : goal.returns-then-good_id-2
unfolding setting_up
returns-then-good_id-2 c =
    rw (sym c.good_id.ensures ∙ c.if-good_id.true, sym c.good_id-then-good_id.ensures ∙ c.if-good_id-2.true, c.setup_with.ensures)

pub returns-else-good_id : goal.returns-else-good_id
unfolding setting_up
returns-else-good_id c =
    elim c.else-good_id.branch [
      | else-good_id-via-then-good_id+else-good_id-2 w ↦
          sym (cond-false _ _ _ (and-no-right _ _ (sym w.good_id-then-good_id.ensures ∙ w.if-good_id-2.false)))
      | else-good_id-via-else-good_id w ↦ sym (cond-false _ _ _ (and-no-left _ _ (sym c.good_id.ensures ∙ w.if-good_id.false)))
    ]
