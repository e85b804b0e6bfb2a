use Rattle.std.proofs.Common.{string_bytes}
use Rattle.apex_texts.proofs.ReplayLemmas.{served_report}
use Rattle.apex_texts.proofs.replay.replay_on.Goals as goal

pub returns : goal.returns
returns c =
    served_report c.args.ports.now.config c.args.trace.now c.push_calls.new.ports (string_bytes c.in_ok-text.text) (string_bytes c.push_calls.new.text) c.push_totals.new.text c.in_ok-text.ensures.bytes
    c.in_ok-push_calls.ensures.config c.in_ok-push_calls.ensures.served c.in_ok-push_calls.ensures.written c.in_ok-push_totals.ensures
