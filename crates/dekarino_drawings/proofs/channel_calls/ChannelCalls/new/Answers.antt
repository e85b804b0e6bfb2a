use Rattle.std.proofs.Common.{refl}
use Rattle.dekarino_drawings.proofs.FollowingLemmas.{none_followed}
use Rattle.dekarino_drawings.proofs.channel_calls.ChannelCalls.new.Goals as goal

pub returns : goal.returns
returns c = λ config channel. none_followed config channel _ c.new.ensures.items refl refl
