use Rattle.apex_groups.proofs.Common.{◌≡◌, take, history_of, IsOrder}
use Rattle.apex_orders.specs.Clock.{IsClocked}
use Rattle.apex_ports.specs.Sound.{IsSound}
use Rattle.apex_groups.specs.Deciding.{HasReply}
use Rattle.apex_groups.proofs.decision.reply_in.Given as goal

abbrev pub invariant-loop-p : goal.invariant-loop-p
invariant-loop-p l = record {
  config : l.ports.config ≡ l.config;
  sound : IsSound l.ports.config l.ports.history;
  history : l.ports.history ≡ history_of l.config l.scripts (take l.p-index l.p-items);
  valid : IsOrder l.config (take l.p-index l.p-items);
  clocked : IsClocked l.clock l.scripts l.ports.history;
  found : HasReply l.asked l.ports.history l.found;
}
