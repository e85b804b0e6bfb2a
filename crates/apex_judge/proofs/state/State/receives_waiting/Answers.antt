use Rattle.apex_judge.proofs.Common.{◌<◌, ℕ, List, position, is_some, length, length-set, sym, ap, ◌∙◌, arith, bytes_eq, port_of, at_index, picture_of, receives_waiting}
use Rattle.apex_judge.proofs.ChannelSteps.{one_same}
use Rattle.apex_judge.proofs.EntrySteps.{among}
use Rattle.apex_judge.proofs.Lookups.{channel_at}
use Rattle.apex_judge.proofs.state.State.receives_waiting.Goals as goal

pub returns-clause-test : goal.returns-clause-test
returns-clause-test g c =
    let config = c.args.config.now in
    let p = c.args.partition in
    let before = picture_of config c.args.self.now.log in
    let message = c.in-Received.message in
    let state = channel_at _ _ _ _ c.requires c.in-Some.c c.index_mut.result.now c.in-Some.ensures.linked c.index_mut.ensures.value in
    let call = c.in-ReceiveQueuing.is in
    let reply = c.in-Received.is in
    c.has.ensures.test
    ∙ (ap (λ (waiting : List (List ℕ)). is_some (position (λ one. bytes_eq one message) waiting)) state.waiting
    ∙ sym ((λ i. receives_waiting config before p (call i) (reply i)) ∙ among before (port_of config p c.in-ReceiveQueuing.id) c.in-Some.c message c.in-Some.ensures.channel))

pub returns-clause-shown : goal.returns-clause-shown
returns-clause-shown g c =
    let was = c.requires in
    let before = picture_of c.args.config.now c.args.self.now.log in
    let channels = c.args.self.now.channels.items in
    let all = was.all_channels in
    let linked = c.in-Some.ensures.linked in
    let inside : c.in-Some.c < length channels = omega (arith, all, linked) in
    let here = at_index channels c.in-Some.c c.index_mut.result.now inside c.index_mut.ensures.value in
    record {
      all_partitions = was.all_partitions;
      all_channels = length-set channels c.in-Some.c c.has.new.self ∙ was.all_channels;
      each_partition = was.each_partition;
      each_channel = one_same channels c.in-Some.c c.index_mut.result.now c.has.new.self here c.has.ensures.waiting c.has.ensures.sample before was.each_channel;
    }
