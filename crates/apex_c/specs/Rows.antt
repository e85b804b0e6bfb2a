-- The numbers of the rows of the reply table, for C.
use Rattle.std.specs.Prelude.{ℕ}
use Rattle.apex_ports.specs.declared.rows.Row.{Row}
use Rattle.apex_ports.specs.declared.rows.Row.TheVariants as row
use Rattle.apex_ports.specs.declared.rows.Refusal.{Refusal}
use Rattle.apex_ports.specs.declared.rows.Refusal.TheVariants as refusal

abbrev pub refusal_number : Refusal → ℕ
refusal_number refusal.NotConfigured = 1
refusal_number refusal.AlreadyCreated = 2
refusal_number refusal.SizeDiffers = 3
refusal_number refusal.DepthDiffers = 4
refusal_number refusal.DirectionDiffers = 5
refusal_number refusal.RefreshDiffers = 6
refusal_number refusal.UnknownDiscipline = 7
refusal_number refusal.InNormal = 8
refusal_number refusal.NotCreated = 9
refusal_number refusal.NoSuchPort = 10
refusal_number refusal.EmptyMessage = 11
refusal_number refusal.MessageTooLong = 12
refusal_number refusal.NotSource = 13
refusal_number refusal.NotDestination = 14
refusal_number refusal.QueueFull = 15
refusal_number refusal.QueueEmpty = 16
refusal_number refusal.NeverWritten = 17
refusal_number refusal.UnknownMode = 18
refusal_number refusal.AlreadyNormal = 19
refusal_number refusal.WarmStartInColdStart = 20

abbrev pub row_number : Row → ℕ
row_number row.Idle = 0
row_number (row.Refused refusal) = refusal_number refusal
row_number (row.Created id) = 21
row_number (row.Identified id) = 22
row_number row.Sent = 23
row_number (row.OldestReceived id) = 24
row_number row.Cleared = 25
row_number (row.QueuingStatus id) = 26
row_number row.Written = 27
row_number (row.LastRead id validity) = 28
row_number (row.SamplingStatus id) = 29
row_number row.ModeSet = 30
