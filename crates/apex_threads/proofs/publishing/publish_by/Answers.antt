use Rattle.apex_ports.specs.Noted.{call_by}
use Rattle.apex_threads.proofs.PublishSteps.{nothing_published}
use Rattle.apex_threads.proofs.publishing.publish_by.Goals as goal

pub returns-then-writes_nothing-clause-published : goal.returns-then-writes_nothing-clause-published
returns-then-writes_nothing-clause-published g c =
    let ports = c.args.ports.now in
    nothing_published ports.config ports.history c.args.partition c.args.at (call_by c.args.call) c.args.publishers.now c.requires.published
    (c.if-writes_nothing.ensures ports.config ports.history c.args.partition)
