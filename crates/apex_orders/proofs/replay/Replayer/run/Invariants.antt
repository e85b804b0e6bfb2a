use Rattle.apex_orders.proofs.Common.{◌≡◌, take, history_of}
use Rattle.apex_orders.proofs.replay.Replayer.run.Given as goal

abbrev pub invariant-loop-p : goal.invariant-loop-p
invariant-loop-p l = record {
  config : l.self.config ≡ l.fn.self.config;
  history : l.self.history ≡ history_of l.fn.self.config l.scripts (take l.p-index l.p-items);
}
