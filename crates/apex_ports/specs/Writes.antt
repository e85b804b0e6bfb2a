-- The sample that a call writes.
use Rattle.std.specs.Prelude.{ℕ, ◌≡◌, ◌≢◌, List, Option, None, Some}
use Rattle.apex_types.specs.declared.call.Call.{Call}
use Rattle.apex_types.specs.declared.moment.Moment.{Moment}
use Rattle.apex_types.specs.declared.sample.Sample.{Sample}
use Rattle.apex_module.specs.Configuration.{Configuration}
use Rattle.apex_ports.specs.Channels.{sample_written}
use Rattle.apex_ports.specs.History.{History, entry_of}
use Rattle.apex_ports.specs.ReplyTable.{reply_to}

-- the sample that the call writes into the channel, by the reply table
abbrev pub sample_by : Configuration → History → ℕ → Call → Moment → ℕ → Option Sample
sample_by config history partition call at channel =
    sample_written config channel (entry_of partition at call (reply_to config history partition at call))

-- the call writes the message into the channel and nothing into any other, at any moment
pub record Writes (config : Configuration) (history : History) (partition : ℕ) (call : Call) (channel : ℕ) (message : List ℕ) : Type 0 where
  pub there : (at : Moment) → sample_by config history partition call at channel ≡ Some (record { message = message; at = at })
  pub elsewhere : (at : Moment) (other : ℕ) → other ≢ channel → sample_by config history partition call at other ≡ None

abbrev pub WritesNothing : Configuration → History → ℕ → Call → Type 0
WritesNothing config history partition call =
    (at : Moment) (channel : ℕ) → sample_by config history partition call at channel ≡ None
