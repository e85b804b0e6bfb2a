use Rattle.apex_groups.proofs.Common.{Option, ap, set}
use Rattle.apex_groups.proofs.PartSearchLemmas.{one_taken}
use Rattle.apex_groups.proofs.searcher.Searcher.take.Goals as goal
use Rattle.apex_orders.specs.declared.outcome_search.Searched.{Searched}

pub returns-clause-rest : goal.returns-clause-rest
returns-clause-rest c clock config bound parts is =
    one_taken clock config bound parts c.args.self.now _ c.args.part is (ap (λ (o : Option Searched). set c.args.self.now.searched.items c.args.part o) c.take.ensures.after)
