use Rattle.std.proofs.Common.{sym, ◌∙◌}
use Rattle.apex_files.proofs.TerminalLemmas.{waits, is_written, ends}
use Rattle.apex_files.proofs.terminal.write_escaped.Goals as goal

pub loop-byte-preserved-in_ok-write_escape : goal.loop-byte-preserved-in_ok-write_escape
loop-byte-preserved-in_ok-write_escape g c =
    let contents = g.W.Write.contents in
    let held = c.loop-byte.invariant in
    is_written c.loop-byte.before c.in-Some.byte.now c.in-Some.after.now c.loop-byte.rest.now c.in-Some.ensures.cases.0 (contents c.args.output.now) (contents c.loop-byte.output) _ held.0 c.loop-byte.waiting.now held.1 held.2
    (contents c.write_all.new.self) (contents c.write_escape.new.output) (sym c.is_escaped.ensures ∙ c.if-is_escaped.true) c.in_ok-write_all.ensures.bytes c.in_ok-write_escape.ensures

pub loop-byte-preserved : goal.loop-byte-preserved
loop-byte-preserved g c =
    let contents = g.W.Write.contents in
    let held = c.loop-byte.invariant in
    waits c.loop-byte.before c.in-Some.byte.now c.in-Some.after.now c.loop-byte.rest.now c.in-Some.ensures.cases.0 (contents c.args.output.now) (contents c.loop-byte.output) _ held.0 c.loop-byte.waiting.now held.1 held.2
    (sym c.is_escaped.ensures ∙ c.if-is_escaped.false)

pub returns : goal.returns
returns g c =
    let contents = g.W.Write.contents in
    let held = c.loop-byte.invariant in
    ends c.loop-byte.before c.loop-byte.rest.now (contents c.args.output.now) (contents c.loop-byte.output) (contents c.write_all-2.new.self) _ held.0 c.loop-byte.waiting.now c.in_default.ensures.cases held.1 held.2
    c.write_all-2.result c.write_all-2.ensures.bytes
