use Rattle.apex_config.proofs.Common.{◌≡◌, map, take, port_of_text}
use Rattle.apex_config.proofs.accepted.accepted_ports.Given as goal

abbrev pub invariant-loop-text : goal.invariant-loop-text
invariant-loop-text l = l.ports.items ≡ map (port_of_text l.channels) (take l.text-index l.texts)
