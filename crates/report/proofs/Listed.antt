-- A report and a correction are read by listed tags alone, so that a look at these tells the same.
use mathlib.Core.Path.{◌≡◌, refl}
use Rattle.field.specs.Index.{listed, position, column_of}
use Rattle.field.specs.Look.{Look, at_listed}
use Rattle.report.specs.Report.{report_of, reported_of, slot_for}
use Rattle.report.specs.Correction.{entry_for}

module _ (look : Look) where
  pub reported-listed : reported_of (at_listed look) ≡ reported_of look
  unfolding reported_of report_of at_listed column_of position listed
  reported-listed = refl

  pub slot-listed : slot_for (at_listed look) ≡ slot_for look
  unfolding slot_for at_listed column_of position listed
  slot-listed = refl

  pub entry_listed : entry_for (at_listed look) ≡ entry_for look
  unfolding entry_for at_listed column_of position listed
  entry_listed = refl
