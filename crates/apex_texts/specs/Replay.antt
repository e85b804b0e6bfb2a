-- What a replay gives: the report of the lawful history of the trace's requests, or why a text is refused.
use Rattle.std.specs.Prelude.{◌≡◌, ℕ, List, Result, Ok, Err, String, string_bytes}
use Rattle.apex_texts.specs.Prelude.{Configuration, ConfigFault, Entry, Request, History, entry_of, requests_of}
use Rattle.std.specs.declared.alloc.Global.{Global}
use Rattle.apex_config.specs.Meaning.{config_of}
use Rattle.apex_module.specs.declared.fault.ConfigFault.TheVariants as config_faults
use Rattle.apex_ports.specs.Lawful.{IsLawful, Answers}
use Rattle.apex_ports.specs.ReplyTable.{reply_to}
use Rattle.apex_texts.specs.declared.fault.TraceFault.{TraceFault}
use Rattle.apex_texts.specs.declared.fault.TraceFault.TheVariants as trace_faults
use Rattle.apex_texts.specs.declared.fault.Fault.{Fault}
use Rattle.apex_texts.specs.declared.fault.Fault.TheVariants as faults
use Rattle.apex_texts.specs.Lines.{FaultyLine}
use Rattle.apex_texts.specs.Trace.{trace_of}
use Rattle.apex_texts.specs.Report.{report_of}

-- ---- out of memory is one fault, wherever it happened

abbrev pub config_fault : ConfigFault → Fault
config_fault config_faults.OutOfMemory = faults.Memory
config_fault fault = faults.Config fault

abbrev pub trace_fault : TraceFault → Fault
trace_fault trace_faults.OutOfMemory = faults.Memory
trace_fault fault = faults.Trace fault

-- ---- replays

-- the entry that a request makes after a history
abbrev pub entry_after : Configuration → History → Request → Entry
entry_after config history request =
    entry_of request.partition request.at request.call (reply_to config history request.partition request.at request.call)

-- the history is the lawful one of the trace's requests
abbrev pub IsServed : Configuration → List ℕ → History → Type 0
IsServed config trace history = (trace_of config trace ≡ Ok (requests_of history)) × IsLawful config history

-- the text is the report of the lawful history of these requests
abbrev pub IsReportOf : Configuration → List Request → List ℕ → Type 0
IsReportOf config requests text = (history : History) × Answers config requests history × (text ≡ report_of config history)

-- the trace is refused for this fault
abbrev pub IsRefused : Result (List Request) FaultyLine → TraceFault → Type 0
IsRefused meaning (trace_faults.Line line fault) = meaning ≡ Err (record { line = line; fault = fault })
IsRefused meaning trace_faults.OutOfMemory = ⊥

-- what replaying a trace's text on a configuration returns
abbrev pub IsTraceReplay : Result (String Global) Fault → Configuration → List ℕ → Type 0
IsTraceReplay (Ok text) config trace = (requests : List Request) × (trace_of config trace ≡ Ok requests) × IsReportOf config requests (string_bytes text)
IsTraceReplay (Err (faults.Trace fault)) config trace = IsRefused (trace_of config trace) fault
IsTraceReplay (Err faults.Memory) config trace = Unit {0}
IsTraceReplay (Err fault) config trace = ⊥

-- what a replay of two texts returns
abbrev pub IsReplay : Result (String Global) Fault → List ℕ → List ℕ → Type 0
IsReplay (Ok text) config trace = (configuration : Configuration) × (config_of config ≡ Ok configuration) × IsTraceReplay (Ok text) configuration trace
IsReplay (Err (faults.Config fault)) config trace = config_of config ≡ Err fault
IsReplay (Err (faults.Trace fault)) config trace = (configuration : Configuration) × (config_of config ≡ Ok configuration) × IsTraceReplay (Err (faults.Trace fault)) configuration trace
IsReplay (Err faults.Memory) config trace = Unit {0}
IsReplay (Err fault) config trace = ⊥
