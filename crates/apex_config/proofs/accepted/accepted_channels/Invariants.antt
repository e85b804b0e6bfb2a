use Rattle.apex_config.proofs.Common.{◌≡◌, map, take, channel_of_text}
use Rattle.apex_config.proofs.accepted.accepted_channels.Given as goal

abbrev pub invariant-loop-text : goal.invariant-loop-text
invariant-loop-text l = l.channels.items ≡ map channel_of_text (take l.text-index l.texts)
