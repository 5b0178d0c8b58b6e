use Rattle.std.proofs.Common.{◌≡◌, ◌-◌, ◌^◌, ◌<◌, drop}
use Rattle.text.specs.Decimal.{digits_at_front}
use Rattle.text.proofs.ReadLaws.{so_far}
use Rattle.text.proofs.read_digits.Given as goal

abbrev pub invariant-loop-len : goal.invariant-loop-len
invariant-loop-len l = (l.value < 10 ^ l.len) × (digits_at_front l.most l.s ≡ so_far l.len l.value (l.end - l.len) (drop l.len l.s))
