-- How the taken messages relate to the received ones.
use Rattle.std.specs.Prelude.{ℕ, ◌≡◌, Bool, true, false, not, [], length, drop, map, filter}
use Rattle.std.specs.List.{list_any}
use Rattle.apex_types.specs.declared.call.Call.{Call}
use Rattle.apex_types.specs.declared.call.Call.TheVariants.{ClearQueuing}
use Rattle.apex_module.specs.Configuration.{Configuration}
use Rattle.apex_ports.specs.History.{History}
use Rattle.apex_ports.specs.Channels.{accepted_on, received_on, taken_on, cleared_on, waiting_on, as_received}

-- the taken messages that were not cleared are the received ones, in every history
abbrev pub AlwaysReceivedOrCleared : Type 0
AlwaysReceivedOrCleared = (config : Configuration) (history : History) (c : ℕ) →
    filter (λ one. not one.cleared) (taken_on config c history) ≡ map as_received (received_on config c history)

abbrev pub asks_clear : Call → Bool
asks_clear (ClearQueuing id) = true
asks_clear _ = false

-- no partition called CLEAR_QUEUING_PORT
abbrev pub HasNoClear : History → Type 0
HasNoClear history = list_any (λ entry. asks_clear entry.call) history ≡ false

-- messages leave the channel only by receives: exactly the received ones no longer wait
pub record IsReceivedAlone (config : Configuration) (history : History) (c : ℕ) : Type 0 where
  pub taken : taken_on config c history ≡ map as_received (received_on config c history)
  pub cleared : cleared_on config c history ≡ []
  pub waiting : waiting_on config c history ≡ drop (length (received_on config c history)) (accepted_on config c history)

abbrev pub WithoutClears : Type 0
WithoutClears = (config : Configuration) (history : History) (c : ℕ) → HasNoClear history → IsReceivedAlone config history c
