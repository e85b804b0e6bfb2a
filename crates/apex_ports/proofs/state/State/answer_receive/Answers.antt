use Rattle.apex_ports.proofs.Common.{◌≡◌, false, sym, ap, ◌∙◌, arith, port_of, is_idle, seen}
use Rattle.apex_ports.proofs.Sizes.{received_short}
use Rattle.apex_ports.proofs.Stays.{quiet_keeps, not_made_is_quiet, refused_is_quiet}
use Rattle.apex_ports.proofs.state.State.answer_receive.Goals as goal

pub returns-then-is_idle-clause-kept : goal.returns-then-is_idle-clause-kept
returns-then-is_idle-clause-kept g c = quiet_keeps _ _ _ _ _ c.args.at _ _ c.requires.current.kept (not_made_is_quiet _)

pub receive-requires-clause-row : goal.receive-requires-clause-row
receive-requires-clause-row g c =
    let s = seen c.args.config.now c.args.self.now.history c.args.partition in
    let active : is_idle s.mode ≡ false = ap is_idle (sym c.mode.ensures) ∙ (sym c.is_idle.ensures ∙ c.if-is_idle.false) in
    rw active (c.in-Ok.ensures.row)

pub returns-in-Err-clause-kept : goal.returns-in-Err-clause-kept
returns-in-Err-clause-kept g c =
    quiet_keeps _ _ _ _ _ c.args.at _ _ c.requires.current.kept (refused_is_quiet _ c.code.result c.code.ensures.refused)

pub put_bytes-length-requires : goal.put_bytes-length-requires
put_bytes-length-requires g c =
    let config = c.args.config.now in
    let short = received_short config c.args.self.now.history c.requires.current.sound.lawful (port_of config c.args.partition c.args.id) c.in-Ok.message.now c.in-Ok.ensures.message in
    let room = c.requires.room in
    omega (arith, short, room)
