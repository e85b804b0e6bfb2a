-- What a reader finds, or the number that says why it finds nothing.
use Rattle.std.specs.Prelude.{ℕ, ◌≡◌, nat_lt, if◌then◌else◌, length, None, Some, Result, Ok, Err}
use Rattle.std.specs.Result.{result_unwrap_or}
use Rattle.apex_ports.specs.PortsView.{PortsView}
use Rattle.apex_c.specs.Held.{PortsHeld}
use Rattle.apex_c.specs.declared.answer.TheConstants.{NO_CHANNEL, NO_PARTITION, NOT_OPEN, READ, SHORT_BUFFER}

abbrev pub Found : Type 0 → Type 0
Found X = Result X ℕ

-- what the reader answers
abbrev pub answer_of : {X : Type 0} → Found X → ℕ
answer_of (Ok value) = READ
answer_of (Err number) = number

-- what was found is put into its place, and the answer says whether it was
abbrev pub IsPut : {X : Type 0} → Found X → ℕ → X → X → Type 0
IsPut found answer old new = (answer ≡ answer_of found) × (new ≡ result_unwrap_or found old)

-- found in the ports of a handle that is open
abbrev pub in_ports : {X : Type 0} → PortsHeld → (PortsView → Found X) → Found X
in_ports None find = Err NOT_OPEN
in_ports (Some ports) find = find ports

-- found of a partition that the ports have
abbrev pub in_partition : {X : Type 0} → PortsHeld → ℕ → (PortsView → Found X) → Found X
in_partition held p find =
    in_ports held (λ ports. if nat_lt p (length ports.config.partitions) then find ports else Err NO_PARTITION)

-- found of a channel that the ports have
abbrev pub in_channel : {X : Type 0} → PortsHeld → ℕ → (PortsView → Found X) → Found X
in_channel held c find =
    in_ports held (λ ports. if nat_lt c (length ports.config.channels) then find ports else Err NO_CHANNEL)

-- found for a buffer of this many bytes, if these are enough for it
abbrev pub for_buffer : {X : Type 0} → ℕ → ℕ → Found X → Found X
for_buffer most bytes found = if nat_lt bytes most then Err SHORT_BUFFER else found
