use Rattle.apex_config.proofs.Common.{◌≡◌, map, take, view, port_text_of}
use Rattle.apex_config.proofs.document.port_texts.Given as goal

abbrev pub invariant-loop-value : goal.invariant-loop-value
invariant-loop-value l = l.ports.items ≡ map (λ value. port_text_of (view value)) (take l.value-index l.values)
