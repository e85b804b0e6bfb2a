use Rattle.dekarino_drawings.proofs.Common.{List, ap, ◌∙◌, flat_map, complete, ChannelCalls, waits_in}
use Rattle.std.proofs.Math.ListN.{drop_of_length-le}
use Rattle.dekarino_drawings.proofs.FollowingLemmas.{all_wait}
use Rattle.dekarino_drawings.proofs.channels.waiting_of.Goals as goal

pub returns : goal.returns
returns c = λ config calls was.
    let none = ap (λ (kept : List ChannelCalls). flat_map waits_in kept) (drop_of_length-le c.args.channels.now c.loop-channel-test.false) in
    complete c.loop-channel.waiting.items _ _ none c.loop-channel.invariant ∙ all_wait config calls c.args.channels.now was
