-- What a refused send leaves unchanged.
use Rattle.std.specs.Prelude.{ℕ, Bool, true, false}
use Rattle.apex_types.specs.declared.call.Call.{Call}
use Rattle.apex_types.specs.declared.call.Call.TheVariants.{SendQueuing}
use Rattle.apex_module.specs.Configuration.{Configuration}
use Rattle.apex_ports.specs.History.{History}
use Rattle.apex_ports.specs.OneChannel.{SameChannel}

abbrev pub is_send : Call → Bool
is_send (SendQueuing id message) = true
is_send _ = false

-- every channel is unchanged
abbrev pub SameChannels : Configuration → History → History → Type 0
SameChannels config old new = (c : ℕ) → SameChannel config old new c
