-- The logs that arguments NAME=LOG give to the partitions.
use Rattle.std.specs.Prelude.{◌≡◌, ℕ, Bool, List, [], map, Ok}
use Rattle.apex_module.specs.Configuration.{Configuration}
use Rattle.apex_ports.specs.History.{History}
use Rattle.apex_logs.specs.declared.log.LoggedEntry.{LoggedEntry}
use Rattle.apex_logs.specs.Log.{own_log_of}
use Rattle.apex_logs.specs.Polled.{polled}
use Rattle.apex_log_orders.specs.LogOrders.{Logs}
use Rattle.apex_files.specs.Arguments.{Arguments, AreGiven}
use Rattle.apex_files.specs.Reading.{FileBytes}

-- the entries of a text that is partition p's own log, without their time-outs; whether all calls that say none have one
-- is a parameter
abbrev pub SaysOwnLog : Bool → ℕ → List ℕ → History → Type 0
SaysOwnLog all p bytes log = (logged : List LoggedEntry) × (own_log_of p bytes ≡ Ok logged) × (log ≡ map (λ one. polled all one) logged)

-- the log of each partition: that of the file of the one argument that names it, or the empty one
abbrev pub AreOwnLogs : FileBytes → Bool → Configuration → Arguments → Logs → Type 0
AreOwnLogs files all config arguments logs = AreGiven (SaysOwnLog all) [] files config arguments logs
