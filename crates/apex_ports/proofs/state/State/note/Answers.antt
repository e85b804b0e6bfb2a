use Rattle.apex_ports.specs.Noted.{call_by, reply_by}
use Rattle.apex_ports.proofs.Noting.{noted_sound, noted_kept, noted_counted}
use Rattle.apex_ports.proofs.state.State.note.Goals as goal

pub returns-clause-kept : goal.returns-clause-kept
returns-clause-kept g c =
    let config = c.args.config.now in
    let h = c.args.self.now.history in
    let p = c.args.partition in
    let asked = call_by c.args.call in
    let reply = reply_by c.args.reply in
    record {
      sound = noted_sound config h _ p c.args.at asked reply c.push.ensures c.requires.sound c.requires.partition c.requires.reply;
      kept = noted_kept config h _ p c.args.at asked reply _ _ c.push.ensures c.requires.kept;
      counted = noted_counted config h _ p c.args.at asked reply _ c.index.result.now _ c.push.ensures c.requires.counted c.requires.partition c.index.ensures c.saturating_add.ensures;
    }
