-- A replay of two texts, step by step.
use Rattle.apex_texts.proofs.Common.{◌≡◌, ℕ, ◌+◌, List, [], ◌∷◌, ◌++◌, Result, Ok, Err, refl, ap, ◌∙◌, String, Global, string_bytes, ◌≢◌, lines, Configuration, History, request_of, requests_of, request_at, trace_of, entry_lines, totals_of, report_of, items_from}
use Rattle.apex_config.specs.Meaning.{config_of}
use Rattle.apex_module.specs.declared.fault.ConfigFault.{ConfigFault}
use Rattle.apex_module.specs.declared.fault.ConfigFault.TheVariants as config_faults
use Rattle.apex_ports.specs.declared.history.Entry.{Entry}
use Rattle.apex_ports.specs.PortsView.{PortsView}
use Rattle.apex_texts.specs.declared.fault.Fault.{Fault}
use Rattle.apex_texts.specs.declared.fault.Fault.TheVariants as faults
use Rattle.apex_texts.specs.Replay.{config_fault, IsServed, IsTraceReplay, IsReplay}
use Rattle.apex_texts.proofs.LineLemmas.{with_front, with_front-nil}

-- nothing is read yet
pub fresh_front : (config : Configuration) (history : History) (trace : List ℕ) → history ≡ [] → with_front (requests_of history) (items_from (request_at config) (0 + 1) (lines trace)) ≡ trace_of config trace
fresh_front config history trace none = rw none (with_front-nil (items_from (request_at config) 1 (lines trace)))

-- one more request
pub requests_of-push : (history : History) (entry : Entry) → requests_of (history ++ entry ∷ []) ≡ requests_of history ++ request_of entry ∷ []
requests_of-push [] entry = refl
requests_of-push (x ∷ history) entry = ap (λ requests. request_of x ∷ requests) (requests_of-push history entry)

-- the text that was written is the report
pub served_report : (config : Configuration) (trace : List ℕ) (ports : PortsView) (start calls : List ℕ) (text : String Global) → start ≡ [] → ports.config ≡ config → IsServed config trace ports.history
    → calls ≡ start ++ entry_lines config 1 ports.history → string_bytes text ≡ calls ++ totals_of ports.config ports.history → IsTraceReplay (Ok text) config trace
unfolding report_of
served_report config trace ports start calls text none same served lines totals =
    let calls_alone : calls ≡ entry_lines config 1 ports.history = lines ∙ ap (λ (front : List ℕ). front ++ entry_lines config 1 ports.history) none in
    (requests_of ports.history, served.0, (ports.history, (served.1, refl), totals ∙ (λ i. calls_alone i ++ totals_of (same i) ports.history)))

-- a configuration is refused
pub config_refused : (fault : ConfigFault) (config trace : List ℕ) → (fault ≢ config_faults.OutOfMemory → config_of config ≡ Err fault) → IsReplay (Err (config_fault fault)) config trace
config_refused config_faults.NotToml config trace h = h (λ e. cc)
config_refused config_faults.Shape config trace h = h (λ e. cc)
config_refused config_faults.BadName config trace h = h (λ e. cc)
config_refused config_faults.NameTwice config trace h = h (λ e. cc)
config_refused config_faults.OutOfRange config trace h = h (λ e. cc)
config_refused config_faults.UnknownChannel config trace h = h (λ e. cc)
config_refused config_faults.KindDiffers config trace h = h (λ e. cc)
config_refused config_faults.Sources config trace h = h (λ e. cc)
config_refused config_faults.Destinations config trace h = h (λ e. cc)
config_refused config_faults.Counts config trace h = h (λ e. cc)
config_refused config_faults.OutOfMemory config trace h = tt

-- a configuration is read, and the trace is replayed on it
pub config_read : (answer : Result (String Global) Fault) (config trace : List ℕ) (configuration : Configuration) → config_of config ≡ Ok configuration → IsTraceReplay answer configuration trace → IsReplay answer config trace
config_read (Ok text) config trace configuration read replay = (configuration, read, replay)
config_read (Err (faults.Trace fault)) config trace configuration read replay = (configuration, read, replay)
config_read (Err faults.Memory) config trace configuration read replay = tt
config_read (Err (faults.Config fault)) config trace configuration read replay = absurd replay
config_read (Err (faults.Script partition fault)) config trace configuration read replay = absurd replay
config_read (Err (faults.Held partition n)) config trace configuration read replay = absurd replay
config_read (Err (faults.Run fault)) config trace configuration read replay = absurd replay
config_read (Err faults.Gone) config trace configuration read replay = absurd replay
