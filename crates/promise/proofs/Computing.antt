-- What the worked cases and the day walked through compute with, crate by crate: to unfold a name of this file is to unfold what stands on its line.
use Rattle.octet.specs.Padded as padded
use Rattle.octet.specs.Places as places
use Rattle.octet.specs.Splice as splice
use Rattle.parts.specs.Relaid as relaid
use Rattle.parts.specs.Parts as parts
use Rattle.text.specs.Decimal as decimal
use Rattle.text.specs.Fields as fields
use Rattle.value.specs.Readers as readers
use Rattle.value.specs.Value as value
use Rattle.frame.specs.Finding as finding
use Rattle.field.specs.Pieces as pieces
use Rattle.table.specs.Rows as rows
use Rattle.table.specs.Steps as steps
use Rattle.answer.specs.Setup as setup
use Rattle.wire.specs.Messages as messages
use Rattle.fill.specs.Slot as slot
use Rattle.fill.specs.Booked as slots
use Rattle.book.specs.Place as place
use Rattle.book.specs.Rows as order-rows
use Rattle.book.specs.Admitting as admitting
use Rattle.note.specs.Kept as kept
use Rattle.note.specs.Kinds as kinds
use Rattle.note.specs.Notes as notes
use Rattle.report.specs.Report as report
use Rattle.session.specs.Reading as reading
use Rattle.session.specs.Judging as judging
use Rattle.session.specs.Session as session
use Rattle.restart.specs.Restart as restart
use Rattle.receiver.specs.State as state
use Rattle.receiver.specs.Calls as calls
use Rattle.receiver.specs.Receiver as receiver

unfoldable pub octets : Unit {0}
unfolding padded.padded padded.text_of padded.padded_ok places.number_bytes places.number_in splice.splice relaid.relaid parts.laid
octets = tt

unfoldable pub texts : Unit {0}
unfolding decimal.digits_at_front decimal.decimal_by decimal.decimal decimal.price_text fields.field_bytes setup.id_with
texts = tt

unfoldable pub numbers : Unit {0}
unfolding readers.number_read readers.price_front readers.price_read value.bad_number value.number_or value.bad_price value.price_in
numbers = tt

unfoldable pub values : Unit {0}
unfolding numbers readers.graph_checked readers.code_checked value.bad_graph readers.time_checked value.bad_time value.leap value.days_in value.is_day value.time_fits
values = tt

unfoldable pub framing : Unit {0}
unfolding finding.skip_of finding.body_ok finding.judge_whole finding.judge_length finding.judge_digits finding.judge_opening finding.found_by finding.body_by
framing = tt

unfoldable pub fielding : Unit {0}
unfolding pieces.pieces_of pieces.carries pieces.values_of pieces.count_of pieces.piece_scan pieces.scan_of
fielding = tt

unfoldable pub tables : Unit {0}
unfolding rows.kind_of steps.bad_form steps.in_range steps.fits steps.tag_fault steps.walk steps.first_fault steps.fault_in
tables = tt

unfoldable pub wires : Unit {0}
unfolding messages.headed messages.framed messages.header_of messages.message_of messages.reply_of
wires = tt

unfoldable pub reports : Unit {0}
unfolding report.report_of report.rule_fault report.reported_of report.slot_for
reports = tt

unfoldable pub steps1to3 : Unit {0}
unfolding reading.facts_of reading.facts_in judging.by_phase judging.judged_by judging.judge judging.step3 session.own_call
steps1to3 = tt

unfoldable pub sessions : Unit {0}
unfolding steps1to3 judging.rejected_if judging.filled_to judging.moved judging.logged_out judging.effect judging.in_turn judging.due judging.gap judging.step4
sessions = tt

unfoldable pub placing : Unit {0}
unfolding place.same_exec place.same_order place.by_order place.by_exec place.place_fill order-rows.row_for order-rows.first_for order-rows.booked_for order-rows.is_known order-rows.row_of order-rows.raised order-rows.lowered order-rows.rows_with order-rows.day_with order-rows.rows_less order-rows.day_less order-rows.rows_without order-rows.day_without
placing = tt

unfoldable pub books : Unit {0}
unfolding placing slot.body_of slot.fill_lawful slot.fill_line slots.slot_lawful slots.line_of admitting.place admitting.has_room admitting.in_step admitting.load_with
books = tt

unfoldable pub keeping : Unit {0}
unfolding place.sum_where kept.bookable kept.lawful kept.after restart.run restart.restart
keeping = tt

unfoldable pub noting : Unit {0}
unfolding kinds.note_kind notes.note_bytes notes.slot_as notes.booked_bytes notes.read_as notes.read_note
noting = tt

unfoldable pub bringing : Unit {0}
unfolding calls.of_report calls.brought_by calls.brings_of calls.with_room calls.placed_as calls.becomes calls.deed_of
bringing = tt

unfoldable pub taking : Unit {0}
unfolding bringing calls.spoken calls.settled calls.booked calls.carried_out calls.framed calls.found_to calls.message
taking = tt

unfoldable pub calling : Unit {0}
unfolding taking calls.spoken calls.owned calls.offer calls.acknowledge calls.restarted state.note_of_change receiver.bad_given receiver.writing receiver.refusal_of receiver.unrefused receiver.does
calling = tt
