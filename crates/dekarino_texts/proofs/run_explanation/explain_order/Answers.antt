use Rattle.dekarino_texts.proofs.Common.{◌+◌, ◌++◌, [], ◌∷◌, List, ◌∙◌, refl, arith, subst, Configuration, AreNoted, LineEntry}
use Rattle.apex_texts.specs.Replay.{entry_after}
use Rattle.dekarino_texts.proofs.NoteLemmas.{notes_before, notes_more}
use Rattle.dekarino_texts.proofs.run_explanation.explain_order.Goals as goal

pub loop-byte-init : goal.loop-byte-init
loop-byte-init g c = record {
  config = refl;
  sound = c.requires.sound;
  number = refl;
  noted = notes_before c.args.ports.now.config c.args.ports.now.history c.new-notes.result c.requires.fresh (c.new-notes.ensures c.args.ports.now.config);
  counts = c.as_mut_slice-counts.ensures.len ∙ c.in_ok-counts.ensures.len;
}

pub loop-byte-preserved : goal.loop-byte-preserved
loop-byte-preserved g c =
    let history = c.loop-byte.ports.history in
    let old = c.loop-byte.notes in
    let new = c.explain_call.new.notes in
    let entry = entry_after c.loop-byte.ports.config history c.read_next.new.request in
    let noted = subst (λ (given : Configuration). (log : List LineEntry) → AreNoted given log old → AreNoted given (log ++ record { line = c.loop-byte.number + 1; entry = entry } ∷ []) new) c.loop-byte.invariant.config c.in_ok-explain_call.ensures.noted in
    record {
      config = c.explain_call.ensures.config ∙ c.loop-byte.invariant.config;
      sound = c.explain_call.ensures.sound;
      number = omega arith;
      noted = notes_more c.args.ports.now.config history c.explain_call.new.ports.history c.loop-byte.number entry old new c.loop-byte.invariant.noted c.explain_call.ensures.history noted;
      counts = c.read_next.ensures.count ∙ c.loop-byte.invariant.counts;
    }
