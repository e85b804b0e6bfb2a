use Rattle.apex_ports.proofs.Common.{refl, sym, ◌∙◌, Id, call_by, seen, queuing_port, sampling_port}
use Rattle.apex_types.specs.declared.call.Call.TheVariants as call
use Rattle.apex_ports.proofs.RowFacts.{queuing_status_given, sampling_status_given}
use Rattle.apex_ports.proofs.Stays.{quiet_keeps, queuing_status_is_quiet, sampling_status_is_quiet}
use Rattle.apex_ports.proofs.state.State.serve.Goals as goal

pub returns-in_ok-id-in-SamplingId-clause-kept : goal.returns-in_ok-id-in-SamplingId-clause-kept
returns-in_ok-id-in-SamplingId-clause-kept g c =
    rw c.in-SamplingId.is
    (quiet_keeps _ _ _ _ c.args.partition c.args.at (call.SamplingId c.in-SamplingId.name.now) (Id c.in_ok-id-in-SamplingId.id) c.requires.current.kept (record { accepted = refl; created = λ n. refl; received = refl; read = refl }))

pub returns-in_ok-id-in-QueuingId-clause-kept : goal.returns-in_ok-id-in-QueuingId-clause-kept
returns-in_ok-id-in-QueuingId-clause-kept g c =
    rw c.in-QueuingId.is
    (quiet_keeps _ _ _ _ c.args.partition c.args.at (call.QueuingId c.in-QueuingId.name.now) (Id c.in_ok-id-in-QueuingId.id) c.requires.current.kept (record { accepted = refl; created = λ n. refl; received = refl; read = refl }))

pub returns-in-SamplingStatus-clause-reply : goal.returns-in-SamplingStatus-clause-reply
returns-in-SamplingStatus-clause-reply g c =
    let s = seen c.args.config.now c.args.self.now.history c.args.partition in
    c.sampling_status.ensures.reply ∙ rw c.in-SamplingStatus.is (sym (sampling_status_given c.args.config.now s c.args.partition c.args.at c.in-SamplingStatus.id c.requires.active))

pub returns-in-SamplingStatus-clause-kept : goal.returns-in-SamplingStatus-clause-kept
returns-in-SamplingStatus-clause-kept g c =
    let config = c.args.config.now in
    let p = c.args.partition in
    let s = seen config c.args.self.now.history p in
    let asked = call_by c.args.call in
    let id = c.in-SamplingStatus.id in
    rw c.sampling_status.ensures.reply
    (quiet_keeps _ _ _ _ p c.args.at asked _ c.requires.current.kept (sampling_status_is_quiet config s p asked id (sampling_port config s p id)))

pub returns-in-QueuingStatus-clause-reply : goal.returns-in-QueuingStatus-clause-reply
returns-in-QueuingStatus-clause-reply g c =
    let s = seen c.args.config.now c.args.self.now.history c.args.partition in
    c.queuing_status.ensures.reply ∙ rw c.in-QueuingStatus.is (sym (queuing_status_given c.args.config.now s c.args.partition c.args.at c.in-QueuingStatus.id c.requires.active))

pub returns-in-QueuingStatus-clause-kept : goal.returns-in-QueuingStatus-clause-kept
returns-in-QueuingStatus-clause-kept g c =
    let config = c.args.config.now in
    let p = c.args.partition in
    let s = seen config c.args.self.now.history p in
    let asked = call_by c.args.call in
    let id = c.in-QueuingStatus.id in
    rw c.queuing_status.ensures.reply
    (quiet_keeps _ _ _ _ p c.args.at asked _ c.requires.current.kept (queuing_status_is_quiet config s p asked id (queuing_port config s p id)))
