use Rattle.apex_ports.proofs.Common.{sym, subst, ◌∙◌, History, AreKept, AreCounted, IsSound}
use Rattle.apex_ports.proofs.LawfulSteps.{sound-nil}
use Rattle.apex_ports.proofs.ports.Ports.new.Goals as goal

pub invariant_of-result : goal.invariant_of-result
invariant_of-result g c =
    let empty = sym c.in_ok-state.ensures.history in
    record {
      sound = subst (IsSound c.args.config) empty (sound-nil c.args.config c.partitions.ensures.valid);
      kept = subst (λ (past : History). AreKept c.args.config past c.in_ok-state.state.partitions.items c.in_ok-state.state.channels.items) empty c.in_ok-state.ensures.kept;
      counted = subst (λ (past : History). AreCounted c.args.config past c.in_ok-calls.calls.items) empty (record {
        all = c.in_ok-calls.ensures.all ∙ c.partitions.ensures.count;
        each = λ p count at. c.in_ok-calls.ensures.none p count at;
      });
    }

pub returns-clause-sound : goal.returns-clause-sound
returns-clause-sound g c = subst (IsSound c.args.config) (sym c.in_ok-state.ensures.history) (sound-nil c.args.config c.partitions.ensures.valid)
