-- `table::rows::rows_of` meets its contract: each arm knows its type, and its rows' columns.
use Rattle.field.specs.Index.{listed, position, column_of}
use Rattle.table.proofs.rows.rows_of.Goals as goal

pub returns-in-Logon : goal.returns-in-Logon
unfolding column_of position listed
returns-in-Logon c = rw c.in-Logon.is

pub returns-in-Heartbeat : goal.returns-in-Heartbeat
unfolding column_of position listed
returns-in-Heartbeat c = rw c.in-Heartbeat.is

pub returns-in-Test : goal.returns-in-Test
unfolding column_of position listed
returns-in-Test c = rw c.in-Test.is

pub returns-in-Resend : goal.returns-in-Resend
unfolding column_of position listed
returns-in-Resend c = rw c.in-Resend.is

pub returns-in-Reset : goal.returns-in-Reset
unfolding column_of position listed
returns-in-Reset c = rw c.in-Reset.is

pub returns-in-Report : goal.returns-in-Report
unfolding column_of position listed
returns-in-Report c = rw c.in-Report.is

pub returns-in-Correction : goal.returns-in-Correction
unfolding column_of position listed
returns-in-Correction c = rw c.in-Correction.is
