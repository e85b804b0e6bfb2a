use Rattle.apex_board.proofs.Common.{◌≡◌, length, sym, ap, subst, ◌∙◌, arith, each_at_push, length_push, History, AreJournals, IsFresh}
use Rattle.apex_board.proofs.JournalSteps.{fresh_journals}
use Rattle.apex_board.proofs.records.Records.new.Goals as goal

pub loop-c-preserved : goal.loop-c-preserved
loop-c-preserved g c =
    let push = c.in_ok-push.ensures.items in
    record {
      count = ap length push ∙ length_push c.loop-c.journals.items _ c.loop-c.c c.loop-c.invariant.count;
      fresh = rw push (each_at_push (IsFresh c.args.config.now) c.loop-c.journals.items c.loop-c.c _ c.loop-c.invariant.count c.loop-c.invariant.fresh c.new_journal.ensures);
    }

pub returns-clause-recorded : goal.returns-clause-recorded
returns-clause-recorded g c =
    let count = c.loop-c.invariant.count in
    let channels = c.channels-c-end.ensures.count in
    let all : length c.loop-c.journals.items ≡ length c.args.config.now.channels = omega (arith, count, channels) in
    subst (λ (h : History). AreJournals c.args.config.now h h c.loop-c.journals.items) (sym c.new.ensures.items) (fresh_journals c.args.config.now c.loop-c.journals.items all c.loop-c.invariant.fresh)
