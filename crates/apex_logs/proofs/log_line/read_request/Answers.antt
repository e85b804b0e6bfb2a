use Rattle.apex_logs.proofs.Common.{Result, Ok, Err, OnOk}
use Rattle.apex_texts.proofs.KnownLemmas.{index-known}
use Rattle.apex_logs.proofs.log_line.read_request.Goals as goal

on_ok : {T E P : Type 0} (result : Result T E) → P → OnOk result P
on_ok (Ok x) holds = holds
on_ok (Err fault) holds = tt

pub returns-clause-known : goal.returns-clause-known
returns-clause-known c = on_ok c.read_timed_call.result (index-known c.args.config.now c.in_ok-partition.partition.now c.in_ok-entry-2.field-0 c.in_ok-entry-2.ensures)
