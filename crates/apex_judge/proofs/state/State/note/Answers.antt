use Rattle.apex_judge.proofs.Common.{◌≡◌, List, length, sym, ap, subst, ◌∙◌, arith, length-set, ChannelState, EachAt, entry_of, AreShown, IsChannelShown, picture_of, with_effects, with_doubt}
use Rattle.apex_judge.proofs.ChannelSteps.{doubt_stays}
use Rattle.apex_judge.proofs.Results.{if_err}
use Rattle.apex_judge.proofs.Lookups.{partition_at, whole}
use Rattle.apex_judge.proofs.PartitionSteps.{one_partition, effects_elsewhere, doubt_elsewhere}
use Rattle.apex_judge.proofs.state.State.note.Goals as goal

pub returns-in_err-note_channels-clause-refused : goal.returns-in_err-note_channels-clause-refused
returns-in_err-note_channels-clause-refused g c =
    let was = c.requires.shown in
    let new = c.note_channels.new.channels in
    let count = c.note_channels.ensures.count in
    let all = c.as_mut_slice-channels.ensures.len in
    let items = ap (λ (xs : List (ChannelState g.row.A.Denot)). length xs) c.as_mut_slice-channels.ensures.value in
    let len : length new ≡ c.args.self.now.channels.len = omega (arith, count, all, items) in
    let channels = was.all_channels in
    let many : length new ≡ length c.args.config.now.channels = omega (arith, count, items, channels) in
    let before = picture_of c.args.config.now c.args.self.now.log in
    rw (whole new _ _ len) (if_err {P = AreShown c.args.config.now before c.args.self.now.partitions.items new} _ (record {
      all_partitions = was.all_partitions;
      all_channels = many;
      each_partition = was.each_partition;
      each_channel = c.in_err-note_channels.ensures.refused before (subst (EachAt (IsChannelShown before)) (sym c.as_mut_slice-channels.ensures.value) was.each_channel);
    }))

pub returns-clause-shown : goal.returns-clause-shown
returns-clause-shown g c =
    let was = c.requires.shown in
    let new = c.note_channels.new.channels in
    let count = c.note_channels.ensures.count in
    let all = c.as_mut_slice-channels.ensures.len in
    let items = ap (λ (xs : List (ChannelState g.row.A.Denot)). length xs) c.as_mut_slice-channels.ensures.value in
    let len : length new ≡ c.args.self.now.channels.len = omega (arith, count, all, items) in
    let channels = was.all_channels in
    let many : length new ≡ length c.args.config.now.channels = omega (arith, count, items, channels) in
    let before = picture_of c.args.config.now c.args.self.now.log in
    let entry = entry_of c.args.partition c.args.at c.args.call.now c.args.reply.now in
    let noted = with_effects c.args.config.now entry before in
    let partition = partition_at _ _ _ _ was c.args.partition c.index_mut.result.now c.requires.partition c.index_mut.ensures.value in
    rw (whole new _ _ len) (record {
      all_partitions = length-set c.args.self.now.partitions.items c.args.partition c.note_with_doubt.new.self ∙ was.all_partitions;
      all_channels = many;
      each_partition = one_partition c.args.config.now before (with_doubt c.args.partition c.args.subject c.args.doubted noted) c.args.partition c.args.self.now.partitions.items c.note_with_doubt.new.self
          (λ q state apart here. doubt_elsewhere c.args.config.now noted c.args.partition c.args.subject c.args.doubted q state apart
          (effects_elsewhere c.args.config.now before c.args.partition c.args.at c.args.call.now c.args.reply.now q state apart here))
          was.each_partition (c.note_with_doubt.ensures c.args.config.now before c.args.partition c.args.at partition);
      each_channel = doubt_stays noted c.args.partition c.args.subject c.args.doubted new (c.in_ok-note_channels.ensures.noted before (subst (EachAt (IsChannelShown before)) (sym c.as_mut_slice-channels.ensures.value) was.each_channel));
    })
