-- The agreed IDs of a set-up; and the venues, each of which has the exchange's agreed ID.
use Rattle.std.specs.Prelude.{List, Bool, true, false, ℕ, length, take, replicate}
use Rattle.octet.specs.Bytes.{bytes_of}
use Rattle.octet.specs.Splice.{splice}
use Rattle.answer.specs.declared.Id.{Id}
use Rattle.answer.specs.declared.Venue.{Venue}
use Rattle.answer.specs.declared.Venue.TheVariants.{Sapphire, Emerald}
use Rattle.answer.specs.declared.Setup.{Setup}

abbrev pub id_of : Id → List ℕ
id_of i = take i.len i.bytes

-- an ID's bytes as it is kept: zeros after it
unfoldable pub id_with : List ℕ → Id
id_with t = record { bytes = splice (replicate 16 0) 0 t; len = length t }

-- "the exchange's ID is EMLD where Sapphire's is SPHR"
abbrev pub venue_id : Venue → List ℕ
venue_id Sapphire = bytes_of "SPHR"
venue_id Emerald = bytes_of "EMLD"

abbrev pub is_emerald : Venue → Bool
is_emerald Sapphire = false
is_emerald Emerald = true

abbrev pub ours : Setup → List ℕ
ours setup = id_of setup.ours

abbrev pub theirs : Setup → List ℕ
theirs setup = id_of setup.theirs
