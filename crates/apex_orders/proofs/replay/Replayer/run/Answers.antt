use Rattle.apex_orders.proofs.Common.{◌++◌, ◌∷◌, [], take, List, ℕ, slice_index_or, ap, sym, ◌∙◌, take_more, history_of, next_entries}
use Rattle.apex_orders.proofs.Walks.{continued-append}
use Rattle.apex_orders.proofs.replay.Replayer.run.Goals as goal

pub loop-p-preserved : goal.loop-p-preserved
loop-p-preserved c =
    let config = c.args.self.now.config in
    let scripts = c.args.scripts.now in
    let items = c.partitions-p-items.result.now in
    let i = c.loop-p.p-index in
    let p = slice_index_or items i 0 in
    let longer = ap (λ (order : List ℕ). history_of config scripts order) (take_more items i 0 c.loop-p-test.true) ∙ continued-append config scripts [] (take i items) (p ∷ []) in
    record {
      config = c.advance.ensures.config ∙ c.loop-p.invariant.config;
      history =
          c.advance.ensures.history
          ∙ ((λ j. c.loop-p.invariant.history j ++ next_entries (c.loop-p.invariant.config j) scripts (c.loop-p.invariant.history j) p)
          ∙ sym longer);
    }
