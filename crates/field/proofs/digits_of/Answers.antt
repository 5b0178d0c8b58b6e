-- The digits at the front, of six bytes where there are so many.
use mathlib.Core.Path.{◌∙◌}
use native.Mathlib.Omega.{arith}
use Rattle.field.proofs.Heads.{front-six}
use Rattle.field.proofs.digits_of.Goals as goal

pub returns : goal.returns
returns c =
    let r = c.read_digits-2.ensures in
    (r.value ∙ front-six c.args.rest.now, r.fits.asked, omega (arith, r.fits.asked))
