-- `value::number_of` meets its contract: it is that of `read_digits`.
use mathlib.Core.Path.{ap}
use Rattle.text.specs.Decimal.{digits_at_front}
use Rattle.text.specs.declared.Digits.{Digits}
use Rattle.value.specs.Value.{number_or}
use Rattle.value.proofs.number_of.Goals as goal

pub returns-clause-value : goal.returns-clause-value
unfolding number_or digits_at_front
returns-clause-value c = ap (λ (d : Digits). d.value) c.read_digits.ensures.value
