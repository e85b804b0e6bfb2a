use Rattle.std.proofs.Common.{◌≡◌, ◌++◌, ◌<◌, ◌≤◌, List, Option, map, length, slice_set, slice_index_or, ap, sym, ◌∙◌, arith}
use Rattle.std.specs.Option.{option_to_list}
use Rattle.std.proofs.lemmas.List.{set-get_or, take_all}
use Rattle.apex_observers.specs.Published.{Published}
use Rattle.apex_observers.specs.Channels.{Channels, sampling_of}
use Rattle.apex_observers.proofs.Observing.{books_of_sampling}
use Rattle.apex_observers.proofs.Sampling.{sampling_of-next}
use Rattle.apex_observers.proofs.publishers.Publishers.observers.Goals as goal

pub loop-channel-preserved : goal.loop-channel-preserved
loop-channel-preserved g c =
    let channels = c.args.self.now in
    let n = c.loop-channel.channel in
    let items = c.loop-channel.self-inside.list.items in
    let entry = c.index_mut.result.now in
    let stays : slice_set items n c.observe.new.entry ≡ items =
    ap (λ (e : Option Published). slice_set items n e) (c.in_ok-observe.ensures.unchanged ∙ c.index_mut.ensures.value) ∙ set-get_or items n entry in
    let is : entry ≡ slice_index_or channels n entry =
    c.index_mut.ensures.value ∙ ap (λ (w : Channels). slice_index_or w n entry) c.loop-channel.invariant.0 in
    let within : n < length channels = omega (arith, c.loop-channel-test.true, c.len-channel-end.ensures, ap length c.self.view_is) in (
      stays ∙ c.loop-channel.invariant.0,
      c.in_ok-observe.ensures.observer ∙ (ap (λ w. w ++ option_to_list entry) c.loop-channel.invariant.1 ∙ sym (sampling_of-next channels n entry within is)),
    )

pub returns-clause-each : goal.returns-clause-each
returns-clause-each g c =
    let channels : Channels = c.args.self.now in
    let done : length channels ≤ c.loop-channel.channel = omega (arith, c.loop-channel-test.false, c.len-channel-end.ensures, ap length c.self.view_is) in
    ap (λ (o : List Published). map (λ (known : Published). known.channel) o) (c.loop-channel.invariant.1 ∙ ap sampling_of (take_all c.loop-channel.channel channels done)) ∙ books_of_sampling channels
