-- What a run of scripts gives: the report of a lawful history in which each partition made the calls of its script, or
-- why there is none.
use Rattle.std.specs.Prelude.{◌≡◌, ◌⊎◌, ℕ, List, Result, Ok, Err, String, string_bytes, Some, map}
use Rattle.std.specs.declared.alloc.Global.{Global}
use Rattle.apex_types.specs.declared.call.Call.{Call}
use Rattle.apex_types.specs.declared.moment.Moment.{Moment}
use Rattle.apex_types.specs.declared.reply.Reply.{Reply}
use Rattle.apex_observers.specs.Published.{Published}
use Rattle.apex_module.specs.Configuration.{Configuration, partition_name_of}
use Rattle.apex_ports.specs.History.{History}
use Rattle.apex_ports.specs.Lawful.{IsLawful}
use Rattle.apex_threads.specs.Collected.{HasScripts, HasReplies}
use Rattle.apex_threads.specs.Held.{IsHeldCall}
use Rattle.apex_ports.specs.declared.run_fault.RunFault.{RunFault}
use Rattle.apex_ports.specs.declared.run_fault.RunFault.TheVariants as run_faults
use Rattle.apex_texts.specs.declared.fault.Fault.{Fault}
use Rattle.apex_texts.specs.declared.fault.Fault.TheVariants as faults
use Rattle.apex_runs.specs.Observers.{ShowSamples, IsReadFault}
use Rattle.apex_texts.specs.Report.{report_of}

-- the text reports a lawful history, in which each partition made the calls of its script, each once and in order
abbrev pub IsRunReport : Configuration → List (List (Moment × Call)) → List ℕ → Type 0
IsRunReport config scripts text = (history : History) × IsLawful config history × HasScripts history scripts × (text ≡ report_of config history)

-- the order names the partition of each call of a lawful history, in which each partition made the calls of its script
abbrev pub IsRunOrder : Configuration → List (List (Moment × Call)) → List ℕ → Type 0
IsRunOrder config scripts order =
    (history : History) × IsLawful config history × HasScripts history scripts × (order ≡ map (λ entry. entry.partition) history)

-- the text reports a lawful history in which each partition made the calls of its script and got the replies that its
-- worker got, and the observers show the samples that the sampling channels have after it
pub record IsReported (config : Configuration) (scripts : List (List (Moment × Call))) (replies : List (List Reply)) (observers : List Published) (text : List ℕ) : Type 0 where
  pub history : History
  pub lawful : IsLawful config history
  pub calls : HasScripts history scripts
  pub answers : HasReplies history replies
  pub shown : ShowSamples config history observers
  pub reported : text ≡ report_of config history

-- a worker was held: its partition's script has the call, and the gate may refuse it there
abbrev pub IsNamedHeld : (ℕ → ℕ → Type 0) → Configuration → List (List (Moment × Call)) → List ℕ → ℕ → Type 0
IsNamedHeld may_refuse config scripts name n = (p : ℕ) × (partition_name_of config p ≡ Some name) × IsHeldCall may_refuse scripts p n

-- why the workers have no ports
abbrev pub IsPortsFault : RunFault → Type 0
IsPortsFault fault = (fault ≡ run_faults.OutOfMemory) ⊎ (fault ≡ run_faults.NoObserver)

-- why a finished run has no report
abbrev pub IsReportFault : Fault → Type 0
IsReportFault fault = IsReadFault fault ⊎ (fault ≡ faults.Memory)

-- what a run returns, if the gate may refuse at those calls
abbrev pub IsRun : (ℕ → ℕ → Type 0) → Configuration → List (List (Moment × Call)) → Result (String Global) Fault → Type 0
IsRun may_refuse config scripts (Ok text) = IsRunReport config scripts (string_bytes text)
IsRun may_refuse config scripts (Err (faults.Held name n)) = IsNamedHeld may_refuse config scripts name n
IsRun may_refuse config scripts (Err (faults.Run run_faults.WorkerNotStarted)) = Unit {0}
IsRun may_refuse config scripts (Err (faults.Run run_faults.ResultsDiffer)) = Unit {0}
IsRun may_refuse config scripts (Err (faults.Run run_faults.NoObserver)) = Unit {0}
IsRun may_refuse config scripts (Err faults.Gone) = Unit {0}
IsRun may_refuse config scripts (Err faults.Memory) = Unit {0}
IsRun may_refuse config scripts (Err fault) = ⊥
