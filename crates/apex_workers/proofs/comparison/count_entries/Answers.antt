use Rattle.std.proofs.Common.{◌≡◌, ◌+◌, suc, [], ◌∷◌, ◌++◌, take, set, get_or, length, Some, ap, ◌∙◌, subst, sym, refl, arith}
use Rattle.std.specs.List.{slice_get}
use Rattle.std.proofs.lemmas.Bool.{false≢true}
use Rattle.std.proofs.lemmas.Option.{slice_get_read}
use Rattle.apex_ports.specs.History.{History}
use Rattle.apex_threads.specs.Collected.{AreCounted}
use Rattle.apex_threads.proofs.Counting.{counted_more, next_of, take_one_more}
use Rattle.apex_workers.proofs.comparison.count_entries.Goals as goal

pub loop-entry-preserved : goal.loop-entry-preserved
loop-entry-preserved g c =
    let log = c.args.log.now in
    let scripts = c.args.scripts.now in
    let replies = c.args.replies.now in
    let counts = c.loop-entry.counts in
    let i = c.loop-entry.entry-index in
    let e = c.entry-item.result in
    let all = c.loop-entry.invariant.all in
    let entry_at : slice_get log i ≡ Some e = slice_get_read log (length log) i e refl (omega arith) c.entry-item.is in
    let one_more : take (i + 1) log ≡ take i log ++ e ∷ [] =
    let next : i + 1 ≡ suc i = omega arith in ap (λ n. take n log) next ∙ take_one_more log i e entry_at
    in
    let script_at : slice_get scripts e.partition ≡ Some c.index-scripts-p.result =
    slice_get_read scripts (length scripts) e.partition c.index-scripts-p.result refl (omega arith) c.index-scripts-p.is
    in
    let own_at : slice_get replies e.partition ≡ Some c.index-replies-p.result =
    slice_get_read replies (length replies) e.partition c.index-replies-p.result refl (omega arith) c.index-replies-p.is
    in
    subst (λ (h : History). AreCounted h scripts replies (set counts e.partition (get_or counts e.partition 0 + 1))) (sym one_more)
    (counted_more (take i log) e scripts replies counts c.index-scripts-p.result c.index-replies-p.result c.loop-entry.invariant script_at own_at (c.if-not-is_next.ensures.next.0 refl))

-- a log with an entry that isn't its partition's next is not collected
pub returns-then-not-is_next-clause-refused : goal.returns-then-not-is_next-clause-refused
returns-then-not-is_next-clause-refused g c =
    let log = c.args.log.now in
    let scripts = c.args.scripts.now in
    let replies = c.args.replies.now in
    let counts = c.loop-entry.counts in
    let i = c.loop-entry.entry-index in
    let e = c.entry-item.result in
    let all = c.loop-entry.invariant.all in
    let entry_at : slice_get log i ≡ Some e = slice_get_read log (length log) i e refl (omega arith) c.entry-item.is in
    let script_at : slice_get scripts e.partition ≡ Some c.index-scripts-p.result =
    slice_get_read scripts (length scripts) e.partition c.index-scripts-p.result refl (omega arith) c.index-scripts-p.is
    in
    let own_at : slice_get replies e.partition ≡ Some c.index-replies-p.result =
    slice_get_read replies (length replies) e.partition c.index-replies-p.result refl (omega arith) c.index-replies-p.is
    in
    λ collected.
    let next = next_of log scripts replies counts i e c.index-scripts-p.result c.index-replies-p.result collected c.loop-entry.invariant entry_at script_at own_at in
    let t = c.if-not-is_next.ensures.next.1 next in
    absurd (false≢true t)
