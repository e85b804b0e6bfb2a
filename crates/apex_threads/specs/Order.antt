-- Which of several workers' faults a run returns.
use Rattle.std.specs.Prelude.{Option, Some, None, Result, Ok, Err}
use Rattle.apex_ports.specs.declared.run_fault.RunFault.{RunFault}
use Rattle.apex_ports.specs.declared.run_fault.RunFault.TheVariants.{WorkerNotStarted}

-- given the results of the lower partitions and of the next one: that a worker wasn't started takes precedence over all
-- other faults, and after that the lower partitions' fault does
abbrev pub first_fault : {X Y : Type 0} → Result X RunFault → Result Y RunFault → Option RunFault
first_fault lower (Err WorkerNotStarted) = Some WorkerNotStarted
first_fault (Err fault) next = Some fault
first_fault (Ok all) (Err fault) = Some fault
first_fault (Ok all) (Ok replies) = None
