-- What the observers of a run show.
use Rattle.std.specs.Prelude.{ℕ, zero, suc, ◌≡◌, ◌+◌, ◌<◌, ◌⊎◌, false, List, length, Some, slice_get, if◌then◌else◌}
use Rattle.apex_module.specs.Configuration.{Configuration}
use Rattle.apex_observers.specs.Published.{Published, last_of}
use Rattle.apex_ports.specs.Channels.{last_write_on}
use Rattle.apex_ports.specs.History.{History}
use Rattle.apex_ports.specs.Ports.{is_queuing}
use Rattle.apex_texts.specs.declared.fault.Fault.{Fault}
use Rattle.apex_texts.specs.declared.fault.Fault.TheVariants as faults
use Rattle.apex_ports.specs.declared.run_fault.RunFault.TheVariants as run_faults

-- the number of sampling channels before a channel
abbrev pub sampling_before : Configuration → ℕ → ℕ
sampling_before config zero = 0
sampling_before config (suc c) = if is_queuing config c then sampling_before config c else (sampling_before config c + 1)

-- the observer of each sampling channel shows the last write that the history has on the channel; the observers are in
-- the channels' order
abbrev pub ShowSamples : Configuration → History → List Published → Type 0
ShowSamples config history observers =
    (c : ℕ) (known : Published) → c < length config.channels → is_queuing config c ≡ false → slice_get observers (sampling_before config c) ≡ Some known
    → last_of known.writes ≡ last_write_on config c history

-- an observer shows that its channel has ended, or another sample than the run's
abbrev pub IsReadFault : Fault → Type 0
IsReadFault fault = (fault ≡ faults.Gone) ⊎ (fault ≡ faults.Run run_faults.ResultsDiffer)
