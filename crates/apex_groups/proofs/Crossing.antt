-- A thread may search parts of scripts: a search may go to another thread.
use denote.Param.Send.{IsSend, sendable}
use denote.Param.SendFields.{declared_send, variants_send}
use Rattle.std.proofs.Crossing.{crosses}
use Rattle.apex_groups.specs.contracts.searcher.Searcher as Searcher
use Rattle.apex_orders.proofs.Crossing.{outcome_search_send}
use Rattle.apex_orders.proofs.orders_fault.OrdersFault.TheSendSync as fault
use Rattle.apex_orders.proofs.outcomes.Outcomes.TheSendSync as outcomes
use Rattle.apex_orders.specs.contracts.outcome_search.Searched as Searched

searched_send : IsSend Searched.the_row
searched_send = variants_send Searched.enum (
  (outcomes.the_send, tt),
  ((outcome_search_send, (fault.the_send, tt)), tt),
)

pub searcher_send : IsSend Searcher.the_row
searcher_send = declared_send Searcher.the_type (search (sendable, crosses, searched_send) depth 12, (search (sendable, crosses) depth 8, (search sendable, tt)))
