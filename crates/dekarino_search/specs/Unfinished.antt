-- Why a task can't be finished, by the error that it met.
use Rattle.apex_texts.specs.declared.fault.Fault.TheVariants as faults
use Rattle.apex_files.specs.declared.refusal.Refusal.TheVariants as refusals
use Rattle.apex_logs.specs.declared.log.LogError.{LogError}
use Rattle.apex_logs.specs.declared.log.LogError.TheVariants as errors
use Rattle.dekarino_search.specs.declared.unfinished.Unfinished.{Unfinished}
use Rattle.dekarino_search.specs.declared.unfinished.Unfinished.TheVariants as unfinished

-- a refused growth of memory
abbrev pub out_of_memory : Unfinished
out_of_memory = unfinished.Refused (refusals.Text faults.Memory)

-- a faulty line, or out of memory
abbrev pub log_refusal : LogError → Unfinished
log_refusal (errors.Line faulty) = unfinished.FaultyLog faulty
log_refusal errors.OutOfMemory = out_of_memory
