-- The law of the table as text: only a check that its service lists refuses a call.
use Rattle.std.specs.Prelude.{ℕ, Contains}
use Rattle.apex_types.specs.declared.call.Call.{Call}
use Rattle.apex_types.specs.declared.moment.Moment.{Moment}
use Rattle.apex_module.specs.Configuration.{Configuration}
use Rattle.apex_ports.specs.ReplyTable.{service_row}
use Rattle.apex_ports.specs.Seen.{Seen}
use Rattle.apex_ports.specs.declared.rows.Row.{Row}
use Rattle.apex_ports.specs.declared.rows.Row.TheVariants.{Refused}
use Rattle.apex_texts.specs.Service.{service_of}
use Rattle.apex_texts.specs.declared.service.Service.{Service}
use Rattle.apex_words.specs.Services.{refusals_of}

-- the row isn't a refusal, or it is that of a check of the service
abbrev pub IsRowOf : Service → Row → Type 0
IsRowOf service (Refused refusal) = Contains (refusals_of service) refusal
IsRowOf service _ = Unit {0}

-- whatever a partition sees, outside of IDLE
abbrev pub RefusalsAreListed : Type 0
RefusalsAreListed = (config : Configuration) (seen : Seen) (p : ℕ) (now : Moment) (call : Call) → IsRowOf (service_of call) (service_row config seen p now call)
