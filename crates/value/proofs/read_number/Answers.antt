-- `value::read_number` meets its contract, by form and then by range.
use mathlib.Core.Logic.{⊎_elim}
use native.Mathlib.Omega.{arith}
use Rattle.value.proofs.Numbers.{number_short, number-empty, number-in, number-below, number-above}
use Rattle.value.proofs.read_number.Goals as goal

pub returns-then-len-v-clause-value : goal.returns-then-len-v-clause-value
returns-then-len-v-clause-value c =
    let e = c.read_digits-len.ensures.value in
    ⊎_elim (λ h. number_short _ _ e _ _ h) (λ h. number-empty _ _ e _ _ h.0 (omega arith)) c.then-len-v.either

pub returns-then-value-low-clause-value : goal.returns-then-value-low-clause-value
returns-then-value-low-clause-value c =
    let e = c.read_digits-len.ensures.value in
    let w = c.if-len-v.false in
    ⊎_elim (λ h. number-below _ _ e w (omega arith) _ _ h) (λ h. number-above _ _ e w (omega arith) _ _ h.1) c.then-value-low.either

pub returns-clause-value : goal.returns-clause-value
returns-clause-value c = number-in _ _ c.read_digits-len.ensures.value c.if-len-v.false (omega arith) _ _ c.if-value-low.false c.if-high-value.false
