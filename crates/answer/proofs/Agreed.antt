-- The exchange's agreed ID: as it is kept it is the venue's, four bytes of 33 to 126.
--     agreed            kept as an ID, it is what it was
--     agreed-good       its length, and its bytes
use mathlib.Core.Path.{◌≡◌, refl}
use mathlib.Core.Bool.{true}
use lib.ListN.{length}
use Rattle.octet.specs.Bytes.{all_in}
use Rattle.octet.specs.Splice.{splice}
use Rattle.answer.specs.Setup.{id_of, id_with, venue_id}
use Rattle.answer.specs.declared.Venue.{Venue}
use Rattle.answer.specs.declared.Venue.TheVariants.{Sapphire, Emerald}

pub agreed : (v : Venue) → id_of (id_with (venue_id v)) ≡ venue_id v
unfolding id_with splice
agreed Sapphire = refl
agreed Emerald = refl

pub agreed-good : (v : Venue) → (length (venue_id v) ≡ 4) × (all_in 33 126 (venue_id v) ≡ true)
agreed-good Sapphire = (refl, refl)
agreed-good Emerald = (refl, refl)
