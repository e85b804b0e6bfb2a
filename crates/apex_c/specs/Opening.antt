-- Opening a handle.
use Rattle.std.specs.Prelude.{ℕ, ◌≡◌, ◌≢◌, [], Option, None, Some, Result, Ok, Err, unwrap_or}
use Rattle.apex_module.specs.Configuration.{Configuration}
use Rattle.apex_module.specs.Fault.{pass_of}
use Rattle.apex_module.specs.declared.fault.ConfigFault.{ConfigFault}
use Rattle.apex_c.specs.Held.{PortsHeld}
use Rattle.apex_c.specs.declared.opening.TheConstants.{ALREADY_OPEN, OPENED, OUT_OF_MEMORY}

-- the ports before the first call; none of a configuration that is refused
abbrev pub ports_at_start : Result Configuration ConfigFault → PortsHeld
ports_at_start (Ok config) = Some (record { config = config; history = [] })
ports_at_start (Err fault) = None

abbrev pub fault_number : ConfigFault → ℕ
fault_number fault = unwrap_or (pass_of fault) OUT_OF_MEMORY

-- the number of the configuration's fault, if it has one
abbrev pub opening_number : Result Configuration ConfigFault → ℕ
opening_number (Ok config) = OPENED
opening_number (Err fault) = fault_number fault

-- what a handle holds is what a configuration starts with, if the answer is OPENED; else it is what the handle held. The answer
-- is the configuration's number, unless the handle was open or memory was refused
abbrev pub IsOpening : {X : Type 0} → Option X → Option X → Option X → ℕ → ℕ → Type 0
IsOpening old new start number answer =
    (old ≢ None → answer ≡ ALREADY_OPEN)
    × (answer ≢ OPENED → new ≡ old)
    × (answer ≡ OPENED → new ≡ start)
    × (old ≡ None → answer ≢ OUT_OF_MEMORY → answer ≡ number)
