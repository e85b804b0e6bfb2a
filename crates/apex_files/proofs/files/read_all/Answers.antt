use Rattle.std.proofs.Common.{◌<◌, ◌++◌, length, take, arith}
use Rattle.std.proofs.lemmas.List.{length-append}
use Rattle.apex_files.specs.declared.files.TheConstants.{FILE_LIMIT}
use Rattle.apex_files.proofs.ReadingLemmas.{consumes_both}
use Rattle.apex_files.proofs.files.read_all.Goals as goal

pub returns-then-len-count-gt-FILE_LIMIT-clause-fault : goal.returns-then-len-count-gt-FILE_LIMIT-clause-fault
returns-then-len-count-gt-FILE_LIMIT-clause-fault g c =
    let remaining = g.R.Read.remaining in
    let read = c.loop.bytes.items in
    let piece = take c.in-Ok.count c.read.new.buf in
    let ok = c.loop.bytes.ok in
    let bound = c.in-Ok.ensures.bound in
    let more : FILE_LIMIT < length (read ++ piece) = omega (arith, length-append read piece, c.if-len-count-gt-FILE_LIMIT.true, c.len.ensures) in
    (read ++ piece, consumes_both (remaining c.args.reader.now) (remaining c.loop.reader) (remaining c.read.new.self) read piece c.loop.invariant.read c.in-Ok.ensures.bytes.0, more)
