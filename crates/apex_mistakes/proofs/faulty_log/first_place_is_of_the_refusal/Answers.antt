use Rattle.apex_mistakes.proofs.Common.{[], ◌∷◌, lines}
use Rattle.apex_texts.specs.declared.expected.Expected.TheVariants as kinds
use Rattle.apex_texts.specs.Script.{timed_call_at}
use Rattle.apex_texts.specs.Trace.{request_at}
use Rattle.apex_logs.specs.TimedCall.{logged_request_at, own_request_at}
use Rattle.apex_mistakes.proofs.FaultyLinesLemmas.{agrees as agrees_line}
use Rattle.apex_mistakes.proofs.LogFaultsLemmas.{agrees}
use Rattle.apex_mistakes.proofs.faulty_log.first_place_is_of_the_refusal.Goals as goal

pub returns-clause-trace : goal.returns-clause-trace
returns-clause-trace c = λ config text. agrees_line (request_at config) (kinds.Moment ∷ kinds.Partition ∷ []) 1 (lines text)

pub returns-clause-script : goal.returns-clause-script
returns-clause-script c = λ text. agrees_line timed_call_at (kinds.Moment ∷ []) 1 (lines text)

pub returns-clause-module : goal.returns-clause-module
returns-clause-module c = λ config text. agrees (logged_request_at config) (kinds.Moment ∷ kinds.Partition ∷ []) 1 (lines text)

pub returns-clause-own : goal.returns-clause-own
returns-clause-own c = λ partition text. agrees (own_request_at partition) (kinds.Moment ∷ []) 1 (lines text)
