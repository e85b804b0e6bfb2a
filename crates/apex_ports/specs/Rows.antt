-- The return codes of refusals.
use Rattle.apex_types.specs.declared.return_code.ReturnCode.{ReturnCode}
use Rattle.apex_types.specs.declared.return_code.ReturnCode.TheVariants.{NoAction, NotAvailable, InvalidParam, InvalidConfig, InvalidMode}
use Rattle.apex_ports.specs.declared.rows.Refusal.{Refusal}
use Rattle.apex_ports.specs.declared.rows.Refusal.TheVariants as refusal

abbrev pub code_of : Refusal → ReturnCode
code_of refusal.NotConfigured = InvalidConfig
code_of refusal.AlreadyCreated = NoAction
code_of refusal.SizeDiffers = InvalidConfig
code_of refusal.DepthDiffers = InvalidConfig
code_of refusal.DirectionDiffers = InvalidConfig
code_of refusal.RefreshDiffers = InvalidConfig
code_of refusal.UnknownDiscipline = InvalidConfig
code_of refusal.InNormal = InvalidMode
code_of refusal.NotCreated = InvalidConfig
code_of refusal.NoSuchPort = InvalidParam
code_of refusal.EmptyMessage = InvalidParam
code_of refusal.MessageTooLong = InvalidConfig
code_of refusal.NotSource = InvalidMode
code_of refusal.NotDestination = InvalidMode
code_of refusal.QueueFull = NotAvailable
code_of refusal.QueueEmpty = NotAvailable
code_of refusal.NeverWritten = NoAction
code_of refusal.UnknownMode = InvalidParam
code_of refusal.AlreadyNormal = NoAction
code_of refusal.WarmStartInColdStart = InvalidMode
