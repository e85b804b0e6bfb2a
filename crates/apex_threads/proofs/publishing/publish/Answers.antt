use Rattle.apex_threads.proofs.Common.{◌++◌, ◌∷◌, [], entry_of, ArePublished}
use Rattle.apex_ports.specs.ReplyTable.{reply_to}
use Rattle.apex_threads.proofs.PublishSteps.{sampling_entry, write_published, nothing_published, on_published, channels_stay}
use Rattle.apex_threads.proofs.publishing.publish.Goals as goal

pub publish-requires : goal.publish-requires
publish-requires g c =
    let ports = c.args.ports.now in
    sampling_entry ports.config ports.history c.args.publishers.now c.in-Some.channel c.requires.published c.in-Some.ensures.channel c.in-Some.ensures.sampling

pub returns-in-Some-clause-published : goal.returns-in-Some-clause-published
returns-in-Some-clause-published g c =
    let ports = c.args.ports.now in
    let call = c.args.call.now in
    let p = c.args.partition in
    let at = c.args.at in
    let found = c.in-Some in
    on_published c.publish.result
    (ArePublished ports.config (ports.history ++ entry_of p at call (reply_to ports.config ports.history p at call) ∷ []))
    c.publish.new.self _ _ c.publish.ensures
    (write_published ports.config ports.history p at call c.args.publishers.now c.requires.published found.channel found.message.now found.ensures.channel found.ensures.sampling found.ensures.writes)

pub returns-in-None-clause-published : goal.returns-in-None-clause-published
returns-in-None-clause-published g c =
    let ports = c.args.ports.now in
    nothing_published ports.config ports.history c.args.partition c.args.at c.args.call.now c.args.publishers.now c.requires.published c.in-None.ensures.writes

pub returns-in-Some-clause-channels : goal.returns-in-Some-clause-channels
returns-in-Some-clause-channels g c =
    channels_stay c.publish.result c.publish.new.self c.args.publishers.now _ _ c.publish.ensures

pub returns-in-Some-clause-succeeds : goal.returns-in-Some-clause-succeeds
returns-in-Some-clause-succeeds g c nothing =
    let is = c.in-Some.ensures.writes.there c.args.at in
    let isnt = nothing c.args.at c.in-Some.channel in
    absurd (cc)
