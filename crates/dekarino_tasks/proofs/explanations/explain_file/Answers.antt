use Rattle.dekarino_tasks.proofs.ExplanationLemmas.{of_files}
use Rattle.dekarino_tasks.proofs.explanations.explain_file.Goals as goal

pub returns : goal.returns
returns g c =
    of_files g.S.ExplanationSink.takes c.args.sink.now c.explain_trace.new.sink c.in_ok-explained.explained.explanation c.in_ok-config.config c.as_slice.result.now c.in_ok-trace.trace.items
    (g.O.Opener.bytes_at c.args.opener.now c.args.config.now) (g.O.Opener.bytes_at c.args.opener.now c.args.trace.now) c.in_ok-config.ensures c.as_slice.ensures.value c.in_ok-trace.ensures
    c.in_ok-explained.ensures.lines c.in_ok-explained.ensures.ending c.in_ok-explained.ensures.fault
