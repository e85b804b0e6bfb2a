use Rattle.apex_judge.proofs.Common.{◌≡◌, ℕ, true, List, set, Option, length, sym, ap, subst, ◌∙◌, arith, length-set, ChannelState, EachAt, entry_of, AreShown, IsChannelShown, picture_of, with_effects, named_reply, port_about, with_doubt, with_evidence, Reply}
use Rattle.apex_judge.proofs.ChannelSteps.{doubt_stays}
use Rattle.apex_judge.proofs.Results.{if_err}
use Rattle.apex_judge.proofs.Lookups.{partition_at, whole}
use Rattle.apex_judge.proofs.PartitionSteps.{one_partition, effects_elsewhere, evidence_elsewhere, doubt_elsewhere}
use Rattle.apex_judge.proofs.state.State.believe.Goals as goal

pub returns-in_err-believe_channels-clause-refused : goal.returns-in_err-believe_channels-clause-refused
returns-in_err-believe_channels-clause-refused g c =
    let was = c.requires.shown in
    let new = c.believe_channels.new.channels in
    let count = c.believe_channels.ensures.count in
    let all = c.as_mut_slice-channels.ensures.len in
    let items = ap (λ (xs : List (ChannelState g.row.A.Denot)). length xs) c.as_mut_slice-channels.ensures.value in
    let len : length new ≡ c.args.self.now.channels.len = omega (arith, count, all, items) in
    let channels = was.all_channels in
    let many : length new ≡ length c.args.config.now.channels = omega (arith, count, items, channels) in
    let before = picture_of c.args.config.now c.args.self.now.log in
    rw (whole new _ _ len) (if_err {P = AreShown c.args.config.now before c.args.self.now.partitions.items new} _ (record {
      all_partitions = was.all_partitions;
      all_channels = many;
      each_partition = was.each_partition;
      each_channel = c.in_err-believe_channels.ensures.refused before (subst (EachAt (IsChannelShown before)) (sym c.as_mut_slice-channels.ensures.value) was.each_channel);
    }))

pub returns-clause-shown : goal.returns-clause-shown
returns-clause-shown g c =
    let was = c.requires.shown in
    let new = c.believe_channels.new.channels in
    let count = c.believe_channels.ensures.count in
    let all = c.as_mut_slice-channels.ensures.len in
    let items = ap (λ (xs : List (ChannelState g.row.A.Denot)). length xs) c.as_mut_slice-channels.ensures.value in
    let len : length new ≡ c.args.self.now.channels.len = omega (arith, count, all, items) in
    let channels = was.all_channels in
    let many : length new ≡ length c.args.config.now.channels = omega (arith, count, items, channels) in
    let before = picture_of c.args.config.now c.args.self.now.log in
    let entry = entry_of c.args.partition c.args.at c.args.call.now c.args.reply.now in
    let named = c.named_reply-named.result in
    let effects = entry_of c.args.partition c.args.at c.args.call.now named in
    let noted = with_effects c.args.config.now effects before in
    let believed = with_evidence c.args.config.now entry noted in
    let about = sym c.port_about-port.ensures in
    let is_named : named ≡ named_reply (port_about c.args.config.now c.args.partition c.args.call.now) c.args.reply.now = c.named_reply-named.ensures ∙ ap (λ (port : Option ℕ). named_reply port c.args.reply.now) (sym about) in
    let partition = partition_at _ _ _ _ was c.args.partition c.index_mut.result.now c.requires.partition c.index_mut.ensures.value in
    let shown : AreShown c.args.config.now (with_doubt c.args.partition c.args.subject true believed) (set c.args.self.now.partitions.items c.args.partition c.believe.new.self) new = record {
      all_partitions = length-set c.args.self.now.partitions.items c.args.partition c.believe.new.self ∙ was.all_partitions;
      all_channels = many;
      each_partition = one_partition c.args.config.now before (with_doubt c.args.partition c.args.subject true believed) c.args.partition c.args.self.now.partitions.items c.believe.new.self
          (λ q state apart here. doubt_elsewhere c.args.config.now believed c.args.partition c.args.subject true q state apart
          (evidence_elsewhere c.args.config.now noted c.args.partition c.args.at c.args.call.now c.args.reply.now q state apart
          (effects_elsewhere c.args.config.now before c.args.partition c.args.at c.args.call.now named q state apart here)))
          was.each_partition (c.believe.ensures c.args.config.now before c.args.partition c.args.at about partition);
      each_channel = doubt_stays believed c.args.partition c.args.subject true new (c.in_ok-believe_channels.ensures.noted before (subst (EachAt (IsChannelShown before)) (sym c.as_mut_slice-channels.ensures.value) was.each_channel));
    } in
    rw (whole new _ _ len)
    (subst (λ (one : Reply). AreShown c.args.config.now (with_doubt c.args.partition c.args.subject true (with_evidence c.args.config.now entry (with_effects c.args.config.now (entry_of c.args.partition c.args.at c.args.call.now one) before)))
    (set c.args.self.now.partitions.items c.args.partition c.believe.new.self) new) is_named shown)
