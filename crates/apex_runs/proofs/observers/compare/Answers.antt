use Rattle.std.proofs.Common.{◌≡◌, ◌+◌, suc, true, false, map, List, ap, sym, subst, ◌∙◌, arith}
use Rattle.std.proofs.Math.Seq.{map-set_same}
use Rattle.apex_observers.specs.Published.{Published}
use Rattle.apex_ports.specs.Ports.{is_queuing}
use Rattle.apex_runs.specs.Observers.{sampling_before}
use Rattle.apex_runs.proofs.ObserverLemmas.{kind_at, after_queuing, after_sampling, Shown, shown_past_queuing, shown_past_sampling, same_held}
use Rattle.apex_runs.proofs.observers.compare.Goals as goal
use Rattle.apex_runs.proofs.observers.compare.Goals.{then-not-is_queuing+else-index-observers+in_ok-compare_read, else-not-is_queuing}

pub returns-in_err-compare_read-clause-channels : goal.returns-in_err-compare_read-clause-channels
returns-in_err-compare_read-clause-channels g c =
    map-set_same (λ (known : Published). known.channel) c.loop-c.observers c.loop-c.index c.compare_read.new.observer c.index-observers-index.result c.compare_read.ensures.channel ∙ c.loop-c.invariant.channels

pub loop-c-preserved : goal.loop-c-preserved
loop-c-preserved g c =
    let config = c.args.ports.now.config in
    let history = c.args.ports.now.history in
    let is = kind_at config c.config-in-loop-c.result.now c.loop-c.c c.channel.result.now c.is_queuing.result c.config-in-loop-c.ensures.config c.channel.ensures.found c.is_queuing.ensures in
    let next : c.loop-c.c + 1 ≡ suc c.loop-c.c = omega arith in
    elim c.if-not-is_queuing.branch [
      | then-not-is_queuing+else-index-observers+in_ok-compare_read w ↦
          let kind : is_queuing config c.loop-c.c ≡ false = cc (is, w.if-not-is_queuing.true) in
          record {
            channels = ap (λ (o : List Published). map (λ (known : Published). known.channel) o) w.observers-is
                ∙ (map-set_same (λ (known : Published). known.channel) c.loop-c.observers c.loop-c.index w.compare_read.new.observer w.index-observers-index.result w.compare_read.ensures.channel ∙ c.loop-c.invariant.channels);
            index = w.index-is ∙ (ap (λ n. n + 1) c.loop-c.invariant.index ∙ (sym (after_sampling config c.loop-c.c kind) ∙ ap (sampling_before config) (sym next)));
            shown = subst (λ (o : List Published). Shown config history o (c.loop-c.c + 1)) (sym w.observers-is)
                (shown_past_sampling config history c.loop-c.observers c.loop-c.c c.loop-c.index w.compare_read.new.observer c.loop-c.invariant.shown kind c.loop-c.invariant.index
                (same_held _ _ w.last_sample.result w.in_ok-compare_read.ensures.shown w.last_sample.ensures.sample));
          }
      | else-not-is_queuing w ↦
          let kind : is_queuing config c.loop-c.c ≡ true = cc (is, w.if-not-is_queuing.false) in
          record {
            channels = ap (λ (o : List Published). map (λ (known : Published). known.channel) o) w.observers-is ∙ c.loop-c.invariant.channels;
            index = w.index-is ∙ (c.loop-c.invariant.index ∙ (sym (after_queuing config c.loop-c.c kind) ∙ ap (sampling_before config) (sym next)));
            shown = subst (λ (o : List Published). Shown config history o (c.loop-c.c + 1)) (sym w.observers-is) (shown_past_queuing config history c.loop-c.observers c.loop-c.c c.loop-c.invariant.shown kind);
          }
    ]
