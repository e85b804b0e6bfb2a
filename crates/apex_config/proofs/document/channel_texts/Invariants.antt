use Rattle.apex_config.proofs.Common.{◌≡◌, map, take, view, channel_text_of}
use Rattle.apex_config.proofs.document.channel_texts.Given as goal

abbrev pub invariant-loop-value : goal.invariant-loop-value
invariant-loop-value l = l.channels.items ≡ map (λ value. channel_text_of (view value)) (take l.value-index l.values)
