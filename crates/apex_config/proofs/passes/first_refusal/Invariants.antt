use Rattle.apex_config.proofs.Common.{◌≡◌, drop, first_refusal}
use Rattle.apex_config.proofs.passes.first_refusal.Given as goal

abbrev pub invariant-loop-fault : goal.invariant-loop-fault
invariant-loop-fault l = first_refusal (drop l.fault-index l.faults) l.config ≡ first_refusal l.faults l.config
