use Rattle.apex_ports.proofs.Common.{◌≡◌, ◌≤◌, Some, length, refl, sym, ap, ◌∙◌, subst, arith, option_copied, Code, NoError, Port, reply_of, size_of, seen}
use Rattle.apex_ports.proofs.ChannelSteps.{written_keeps}
use Rattle.apex_ports.proofs.Conserved.{write_sampling}
use Rattle.apex_ports.proofs.Lookups.{channel_at}
use Rattle.apex_ports.proofs.RowFacts.{written_at, source_of}
use Rattle.apex_ports.proofs.state.State.write.Goals as goal

pub unreachable-requires : goal.unreachable-requires
unreachable-requires g c =
    let config = c.args.config.now in
    let h = c.args.self.now.history in
    let p = c.args.partition in
    let at = written_at config (seen config h p) p c.args.at c.args.id c.args.message.now c.requires.row in
    let some = at.1.found in
    let none = sym c.configured_port.ensures.found ∙ ap option_copied c.in_default.is in
    absurd (cc)

pub write-requires-clause-kind : goal.write-requires-clause-kind
write-requires-clause-kind g c =
    let config = c.args.config.now in
    let h = c.args.self.now.history in
    let p = c.args.partition in
    let s = seen config h p in
    let q = c.in-Some.port.now in
    let at = written_at config s p c.args.at c.args.id c.args.message.now c.requires.row in
    let end = source_of config p c.args.id at.0 q at.1 c.in-Some.ensures.found in
    let was = channel_at _ _ _ _ c.requires.current.kept q.channel c.index_mut.result.now c.in-Some.ensures.linked c.index_mut.ensures.value in
    was.kind ∙ write_sampling config h p c.args.at c.args.id c.args.message.now (Code NoError) q.channel c.requires.current.sound.valid (ap (reply_of config s p) (sym c.requires.row)) refl end

pub write-requires-clause-short : goal.write-requires-clause-short
write-requires-clause-short g c =
    let config = c.args.config.now in
    let h = c.args.self.now.history in
    let p = c.args.partition in
    let q = c.in-Some.port.now in
    let at = written_at config (seen config h p) p c.args.at c.args.id c.args.message.now c.requires.row in
    let same : at.0 ≡ q = let both : Some at.0 ≡ Some q = sym at.1.found ∙ sym c.in-Some.ensures.found in cc in
    let was = channel_at _ _ _ _ c.requires.current.kept q.channel c.index_mut.result.now c.in-Some.ensures.linked c.index_mut.ensures.value in
    let size = was.size in
    let short : length c.args.message.now ≤ size_of config q = subst (λ (x : Port). length c.args.message.now ≤ size_of config x) same at.2 in
    omega (arith, size, short)

pub returns-clause-kept : goal.returns-clause-kept
returns-clause-kept g c =
    let config = c.args.config.now in
    let h = c.args.self.now.history in
    let p = c.args.partition in
    let s = seen config h p in
    let q = c.in-Some.port.now in
    let at = written_at config s p c.args.at c.args.id c.args.message.now c.requires.row in
    let end = source_of config p c.args.id at.0 q at.1 c.in-Some.ensures.found in
    let was = channel_at _ _ _ _ c.requires.current.kept q.channel c.index_mut.result.now c.in-Some.ensures.linked c.index_mut.ensures.value in
    let kind = write_sampling config h p c.args.at c.args.id c.args.message.now (Code NoError) q.channel c.requires.current.sound.valid (ap (reply_of config s p) (sym c.requires.row)) refl end in
    rw c.write.ensures (written_keeps _ _ _ _ p c.args.at c.args.id q.channel _ c.index_mut.result.now c.requires.current.kept end was (was.kind ∙ kind))
