-- Faults of a run, by what was refused.
use Rattle.apex_observers.specs.declared.publisher.ObserverFault.{ObserverFault}
use Rattle.apex_observers.specs.declared.publisher.ObserverFault.TheVariants as observer_fault
use Rattle.apex_ports.specs.declared.run_fault.RunFault.{RunFault}
use Rattle.apex_ports.specs.declared.run_fault.RunFault.TheVariants as run_fault
use Rattle.apex_threads.specs.declared.shared.AskFault.{AskFault}
use Rattle.apex_threads.specs.declared.shared.AskFault.TheVariants as ask_fault

-- the fault of a run in which a worker was refused like this
abbrev pub fault_of : AskFault → RunFault
fault_of ask_fault.OutOfMemory = run_fault.OutOfMemory
fault_of ask_fault.NoPartition = run_fault.ResultsDiffer

-- the fault of a run whose observers couldn't be made
abbrev pub fault_without : ObserverFault → RunFault
fault_without observer_fault.OutOfMemory = run_fault.OutOfMemory
fault_without observer_fault.NoPlace = run_fault.NoObserver
