use Rattle.std.proofs.lemmas.Result.{err_from_is_err_and}
use Rattle.apex_texts.proofs.ReplayLemmas.{config_refused, config_read}
use Rattle.apex_texts.proofs.replay.replay_text.Goals as goal

pub returns-in_err-config : goal.returns-in_err-config
returns-in_err-config c = let p = err_from_is_err_and c.from_residual.result c.from_residual.ensures.1 in rw (p.1, p.2) (config_refused c.in_err-config.field-0.0 c.args.config.now c.args.trace.now c.in_err-config.ensures)

pub returns : goal.returns
returns c = config_read c.replay_trace.result c.args.config.now c.args.trace.now c.in_ok-config.config c.in_ok-config.ensures c.replay_trace.ensures
