-- `text::Text::digits` ends by the number, which falls with each call of itself.
use Rattle.text.proofs.Text.+digits.Given as goal

abbrev pub decreases-digits : goal.decreases-digits
decreases-digits l = l.n
