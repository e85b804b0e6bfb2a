use Rattle.dekarino_drawings.proofs.Common.{rules, ◌≡◌, ◌<◌, length, Some, sym, ◌∙◌, arith, channel_changed}
use Rattle.std.proofs.lemmas.Result.{on_ok_weaker}
use Rattle.apex_ports.proofs.Lookups.{at_index}
use Rattle.dekarino_drawings.proofs.FollowingLemmas.{one_follows, none_follows}
use Rattle.dekarino_drawings.proofs.channels.follow.Goals as goal

pub returns-in_default : goal.returns-in_default
returns-in_default c = λ before size small was.
    none_follows c.args.config.now before c.args.entry.now c.args.channels.now.items
    (λ k within same. c.in_default.not-Some k (c.channel_changed.ensures ∙ same)) was

pub returns-then-c-len : goal.returns-then-c-len
returns-then-c-len c = λ before size small was.
    let count : c.len.result ≡ length c.args.channels.now.items = search rules in
    none_follows c.args.config.now before c.args.entry.now c.args.channels.now.items
    (λ k within same. let both : Some k ≡ Some c.in-Some.c = sym same ∙ (sym c.channel_changed.ensures ∙ c.in-Some.is) in let one : k ≡ c.in-Some.c = cc in omega (arith, c.if-c-len.true)) was

pub returns : goal.returns
returns c = λ before size small was.
    let count : c.len.result ≡ length c.args.channels.now.items = search rules in
    let changed : channel_changed c.args.config.now c.args.entry.now.partition c.args.entry.now.call ≡ Some c.in-Some.c = sym c.channel_changed.ensures ∙ c.in-Some.is in
    let within : c.in-Some.c < length c.args.channels.now.items = omega (arith, c.if-c-len.false) in
    let here = was.each c.in-Some.c c.index_mut.result.now (at_index c.args.channels.now.items c.in-Some.c c.index_mut.result.now within c.index_mut.ensures.value) in
    on_ok_weaker c.follow.result
    (λ now. one_follows c.args.config.now before c.args.entry.now c.args.channels.now.items c.in-Some.c c.follow.new.self changed was now)
    (c.follow.ensures before size small here)
