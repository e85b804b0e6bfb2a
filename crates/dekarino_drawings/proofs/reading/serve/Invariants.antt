use Rattle.dekarino_drawings.proofs.Common.{◌≡◌, take, requests_of}
use Rattle.apex_ports.specs.Sound.{IsSound}
use Rattle.dekarino_drawings.proofs.reading.serve.Given as goal

abbrev pub invariant-loop-request : goal.invariant-loop-request
invariant-loop-request l = record {
  config : l.ports.config ≡ l.fn.ports.config;
  sound : IsSound l.ports.config l.ports.history;
  kept : l.calls.items ≡ l.ports.history;
  requests : requests_of l.ports.history ≡ take l.request-index l.requests;
}
