use Rattle.std.proofs.Common.{◌≡◌, rules, ◌∙◌}
use Rattle.std.specs.Bool.{Decides}
use Rattle.apex_module.specs.declared.channel.Channel.{Channel}
use Rattle.apex_module.specs.contracts.channel.ChannelPartialEq.TheImpl as channel_eq
use Rattle.apex_module.specs.Equality.{equal_channels}
use Rattle.apex_module.specs.EqualityLaws.{same_tests, equal_channels-Decides}
use Rattle.apex_module.proofs.config.same_channels.Goals as goal

decides : (a b : Channel) → Decides ((channel_eq.eq-value).it a b) (a ≡ b)
decides a b = search rules

pub returns : goal.returns
returns c = c.eq.ensures ∙ same_tests (channel_eq.eq-value).it equal_channels decides equal_channels-Decides c.args.channels.now c.args.others.now
