use Rattle.std.proofs.Common.{◌≡◌, ◌+◌, ◌++◌, Some, ◌∙◌, arith, string_bytes}
use Rattle.apex_module.specs.Configuration.{partition_name_of}
use Rattle.apex_texts.specs.Report.{entry_line}
use Rattle.apex_texts.proofs.ReportLemmas.{grows, complete}
use Rattle.apex_workers.proofs.LogLemmas.{entry_known, entry_cut, entry_end}
use Rattle.apex_workers.proofs.board_report.push_log.Goals as goal

pub partition_name-requires : goal.partition_name-requires
partition_name-requires c =
    rw c.config.ensures (entry_known c.args.board.now.config c.log-log.result.now c.args.board.now.log c.loop-entry.entry-index c.entry-item.result c.log-log.ensures.lawful c.log-log.ensures.log c.loop-entry-test.true c.entry-item.is)

pub loop-entry-preserved : goal.loop-entry-preserved
loop-entry-preserved c =
    let named : partition_name_of c.args.board.now.config c.entry-item.result.partition ≡ Some c.text-name.result.now = rw (← c.config.ensures, c.text-name.ensures) c.partition_name.ensures.name in
    let cut = entry_cut c.args.board.now.config c.log-log.result.now c.loop-entry.entry-index c.entry-item.result c.text-name.result.now c.loop-entry-test.true c.entry-item.is named in
    let text = string_bytes c.loop-entry.text in
    let name = c.text-name.result.now in
    let at = c.entry-item.result.at in
    let served : string_bytes c.push_entry.new.text ≡ text ++ entry_line (c.loop-entry.number + 1) name at c.entry-item.result.call c.entry-item.result.reply =
    c.in_ok-push_entry.ensures ∙ (λ i. text ++ entry_line (c.loop-entry.number + 1) name at (c.of-call.ensures.call i) (c.of-reply.ensures.reply i)) in
    let grown : string_bytes c.push_entry.new.text ≡ text ++ entry_line (c.loop-entry.entry-index + 1) name at c.entry-item.result.call c.entry-item.result.reply =
    rw (← c.loop-entry.invariant.number) served in
    record {
      number = omega arith;
      written = grows (string_bytes c.loop-entry.text) (string_bytes c.push_entry.new.text) _ _ _ _ grown cut c.loop-entry.invariant.written;
    }

pub returns : goal.returns
returns c =
    let written = complete (string_bytes c.loop-entry.text) _ _ (entry_end c.args.board.now.config c.log-log.result.now c.loop-entry.entry-index c.loop-entry-test.false) c.loop-entry.invariant.written in
    rw c.log-log.ensures.log at written
