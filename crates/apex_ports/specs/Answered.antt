-- What a call of a service does.
use Rattle.std.specs.Prelude.{ℕ, ◌≡◌, [], ◌∷◌, ◌++◌}
use Rattle.apex_types.specs.declared.call.Call.{Call}
use Rattle.apex_types.specs.declared.moment.Moment.{Moment}
use Rattle.apex_types.specs.declared.reply.Reply.{Reply}
use Rattle.apex_ports.specs.History.{entry_of}
use Rattle.apex_ports.specs.PortsView.{PortsView}
use Rattle.apex_ports.specs.ReplyTable.{reply_to}
use Rattle.apex_ports.specs.Sound.{IsSound}

-- the reply is the table's, and the history gains just the entry of the call with it
pub record IsAnswered (old new : PortsView) (p : ℕ) (at : Moment) (asked : Call) (given : Reply) : Type 0 where
  pub reply : given ≡ reply_to old.config old.history p at asked
  pub entry : new.history ≡ old.history ++ entry_of p at asked given ∷ []
  pub config : new.config ≡ old.config
  pub sound : IsSound new.config new.history
