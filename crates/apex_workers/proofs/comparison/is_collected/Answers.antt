use Rattle.apex_threads.proofs.Counting.{complete_of, is_collected_of}
use Rattle.apex_workers.proofs.comparison.is_collected.Goals as goal

pub returns-then-count_entries : goal.returns-then-count_entries
returns-then-count_entries g c =
    let log = c.args.log.now in
    let scripts = c.args.scripts.now in
    let replies = c.args.replies.now in
    let counts = c.count_entries.new.counts in
    let counted = c.if-count_entries.ensures.counted in (
      λ t. is_collected_of log scripts replies counts c.requires.each counted (c.are_complete.ensures.0 t),
      λ collected. c.are_complete.ensures.1 (complete_of log scripts replies counts collected counted),
    )
