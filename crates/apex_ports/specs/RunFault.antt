-- The numbers of a run's faults.
use Rattle.std.specs.Prelude.{ℕ}
use Rattle.apex_ports.specs.declared.run_fault.RunFault.{RunFault}
use Rattle.apex_ports.specs.declared.run_fault.RunFault.TheVariants as run_fault

abbrev pub number_of : RunFault → ℕ
number_of run_fault.OutOfMemory = 1
number_of (run_fault.Held partition n) = 2
number_of run_fault.WorkerNotStarted = 3
number_of run_fault.ResultsDiffer = 4
number_of run_fault.NoObserver = 5
