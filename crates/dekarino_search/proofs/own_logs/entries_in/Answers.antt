use Rattle.std.proofs.Common.{◌≡◌, ◌+◌, ◌≤◌, [], ◌∷◌, ◌++◌, length, Ok, Some, arith}
use Rattle.std.specs.Str.Lines.{lines}
use Rattle.apex_logs.specs.Log.{before, entries_from}
use Rattle.apex_logs.specs.Polled.{polled_entry}
use Rattle.apex_logs.specs.TimeOut.{max_wait_of}
use Rattle.apex_logs.specs.TimedCall.{own_request_at}
use Rattle.dekarino_search.proofs.OwnLogLemmas.{read_more}
use Rattle.dekarino_search.proofs.own_logs.entries_in.Goals as goal

pub loop-lines-preserved : goal.loop-lines-preserved
loop-lines-preserved c =
    let asked = own_request_at c.args.p in
    let entry = c.next_entry.new.entry in
    let whole = entries_from asked 1 (lines c.args.text.now) in
    let after = entries_from asked (c.in-Some.line + 1) (lines c.in-Some.after.now) in
    let left = entries_from asked (c.loop-lines.number + 1) (lines c.loop-lines.rest.now) in
    let next : left ≡ before c.in-Some.line (Ok (Some (entry, c.in-Some.time_out))) after = rw c.in-Some.is at c.in_ok-line.ensures.next in
    let room : c.in-Some.line + length c.in-Some.after.now ≤ c.loop-lines.number + length c.loop-lines.rest.now = rw c.in-Some.is at c.in_ok-line.ensures.room in
    let waits : c.of-wait.result ≡ max_wait_of c.args.time_outs entry.call c.in-Some.time_out = c.of-wait.ensures in
    let pushed : c.push-in-Some.new.self.items ≡ c.loop-lines.entries.items ++ polled_entry (max_wait_of c.args.time_outs entry.call c.in-Some.time_out) entry ∷ [] = rw (c.poll.ensures, waits) at c.in_ok-push-in-Some-2.ensures.items in
    record {
      read = read_more c.args.time_outs c.loop-lines.entries.items c.push-in-Some.new.self.items left whole after c.in-Some.line entry c.in-Some.time_out c.loop-lines.invariant.read next pushed;
      bound = omega (arith, c.loop-lines.invariant.bound, room);
    }
