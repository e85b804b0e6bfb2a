use Rattle.std.proofs.Common.{◌≡◌, length}
use Rattle.apex_ports.specs.Sound.{IsSound}
use Rattle.dekarino_texts.proofs.NoteLemmas.{AreNotesOf}
use Rattle.dekarino_texts.proofs.run_explanation.explain_order.Given as goal

abbrev pub invariant-loop-byte : goal.invariant-loop-byte
invariant-loop-byte g l = record {
  config : l.ports.config ≡ l.fn.ports.config;
  sound : IsSound l.ports.config l.ports.history;
  number : l.number ≡ l.byte-index;
  noted : AreNotesOf l.fn.ports.config l.ports.history l.number l.notes;
  counts : length l.counts ≡ length l.scripts;
}
