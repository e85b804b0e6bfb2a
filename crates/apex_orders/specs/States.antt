-- The state that a history leads to: all that later replies depend on.
use Rattle.std.specs.Prelude.{ℕ, ◌≡◌, ◌<◌, length}
use Rattle.apex_orders.specs.Prelude.{Validity, Configuration, ports_of, History, mode_of, IsIdentifier, is_created, waiting_on, last_write_on, seen, sampling_port, validity_shown}

-- the last validity that the partition's port with this identifier shows
abbrev pub last_shown : Configuration → History → ℕ → ℕ → Validity
last_shown config history p id =
    validity_shown (seen config history p) id (sampling_port config (seen config history p) p id)

-- both histories created the same ports of the partition, and left them with the same last validity
pub record IsSamePorts (config : Configuration) (history other : History) (p : ℕ) : Type 0 where
  pub created : (id : ℕ) → IsIdentifier (ports_of config p) id → is_created p id history ≡ is_created p id other
  pub last : (id : ℕ) → IsIdentifier (ports_of config p) id → last_shown config history p id ≡ last_shown config other p id

-- both histories left the partition in one state
pub record IsSamePartition (config : Configuration) (history other : History) (p : ℕ) : Type 0 where
  pub mode : mode_of p history ≡ mode_of p other
  pub ports : IsSamePorts config history other p

-- both histories left the channel in one state; a sample's moment belongs to it
pub record IsSameChannel (config : Configuration) (history other : History) (c : ℕ) : Type 0 where
  pub sample : last_write_on config c history ≡ last_write_on config c other
  pub waiting : waiting_on config c history ≡ waiting_on config c other

-- both histories lead to one state
pub record IsSameState (config : Configuration) (history other : History) : Type 0 where
  pub partitions : (p : ℕ) → p < length config.partitions → IsSamePartition config history other p
  pub channels : (c : ℕ) → c < length config.channels → IsSameChannel config history other c
