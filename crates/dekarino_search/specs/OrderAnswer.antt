-- Whether the logs that files give have an order.
use Rattle.std.specs.Prelude.{◌≡◌, ℕ, Bool, List, Ok}
use Rattle.apex_module.specs.Configuration.{Configuration}
use Rattle.apex_config.specs.Meaning.{config_of}
use Rattle.apex_ports.specs.History.{History}
use Rattle.apex_log_orders.specs.LogOrders.{HasNoOrder, IsOrder, Logs}
use Rattle.apex_files.specs.Arguments.{Arguments}
use Rattle.apex_files.specs.Reading.{FileBytes}
use Rattle.dekarino_search.specs.OwnLogs.{AreOwnLogs}
use Rattle.dekarino_search.specs.declared.order_answer.OrderAnswer.{OrderAnswer}
use Rattle.dekarino_search.specs.declared.order_answer.OrderAnswer.TheVariants as answers

-- an order of the logs that the arguments name, without time-outs, on the configuration that the bytes are; or that no history is one
abbrev pub IsOrderAnswer : FileBytes → Bool → Arguments → OrderAnswer → List ℕ → Type 0
IsOrderAnswer files all arguments answers.Exists bytes =
    (config : Configuration) × (config_of bytes ≡ Ok config) × (logs : Logs) × AreOwnLogs files all config arguments logs × (history : History) × IsOrder config logs history
IsOrderAnswer files all arguments answers.Impossible bytes =
    (config : Configuration) × (config_of bytes ≡ Ok config) × (logs : Logs) × AreOwnLogs files all config arguments logs × HasNoOrder config logs
IsOrderAnswer files all arguments (answers.Undecided bound) bytes = Unit {0}
