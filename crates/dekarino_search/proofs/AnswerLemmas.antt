-- What is found of the logs that files give.
use Rattle.std.proofs.Common.{◌≡◌, ℕ, Bool, List, Option, Some, None, Ok, subst}
use Rattle.std.specs.Global.{Vec}
use Rattle.std.specs.Prelude.{IfSome}
use Rattle.apex_module.specs.Configuration.{Configuration}
use Rattle.apex_config.specs.Meaning.{config_of}
use Rattle.apex_ports.specs.History.{History}
use Rattle.apex_log_orders.specs.LogOrders.{HasNoOrder, IsAnswer, IsOrder, Logs, entries_at}
use Rattle.apex_log_orders.specs.declared.answer.Answer.{Answer}
use Rattle.apex_log_orders.specs.declared.answer.Answer.TheVariants.{Order, NoOrder}
use Rattle.apex_log_orders.specs.declared.answer.CallPlace.{CallPlace}
use Rattle.apex_files.specs.Arguments.{Arguments}
use Rattle.apex_files.specs.Reading.{FileBytes}
use Rattle.dekarino_search.specs.OrderAnswer.{IsOrderAnswer}
use Rattle.dekarino_search.specs.OwnLogs.{AreOwnLogs}
use Rattle.dekarino_search.specs.declared.bound.Bound.{Bound}
use Rattle.dekarino_search.specs.declared.order_answer.OrderAnswer.TheVariants as answers

module _ (files : FileBytes) (all : Bool) (arguments : Arguments) where
  module _ (config : Configuration) (logs : Logs) (are : AreOwnLogs files all config arguments logs) where
    pub order_found : (read : Option (List ℕ)) (history : History) → IfSome read (λ bytes. config_of bytes ≡ Ok config) → IsOrder config logs history → IfSome read (IsOrderAnswer files all arguments answers.Exists)
    order_found None history known is = tt
    order_found (Some bytes) history known is = (config, known, logs, are, history, is)

    pub none_found : (read : Option (List ℕ)) → IfSome read (λ bytes. config_of bytes ≡ Ok config) → HasNoOrder config logs → IfSome read (IsOrderAnswer files all arguments answers.Impossible)
    none_found None known none = tt
    none_found (Some bytes) known none = (config, known, logs, are, none)

  pub nothing_found : (bound : Bound) (read : Option (List ℕ)) → IfSome read (IsOrderAnswer files all arguments (answers.Undecided bound))
  nothing_found bound None = tt
  nothing_found bound (Some bytes) = tt

-- ---- what an answer says about the logs that were examined

module _ (config : Configuration) (logs seen : Logs) (same : seen ≡ logs) (answer : Answer) (says : IsAnswer config seen answer) where
  pub says_order : (places : Vec CallPlace) → answer ≡ Order places → IsOrder config logs (entries_at logs places.items)
  says_order places is = subst (λ (ls : Logs). IsOrder config ls (entries_at ls places.items)) same (subst (λ (a : Answer). IsAnswer config seen a) is says)

  pub says_none : (longest : Vec CallPlace) → answer ≡ NoOrder longest → HasNoOrder config logs
  says_none longest is =
      let both = subst (λ (a : Answer). IsAnswer config seen a) is says in
      subst (λ (ls : Logs). HasNoOrder config ls) same both.0
