use Rattle.apex_ports.proofs.Stays.{quiet_keeps, not_made_is_quiet, refused_is_quiet}
use Rattle.apex_ports.proofs.state.State.answer_plain.Goals as goal

pub returns-then-is_idle-clause-kept : goal.returns-then-is_idle-clause-kept
returns-then-is_idle-clause-kept g c = quiet_keeps _ _ _ _ _ c.args.at _ _ c.requires.current.kept (not_made_is_quiet _)

pub returns-in-Err-clause-kept : goal.returns-in-Err-clause-kept
returns-in-Err-clause-kept g c =
    quiet_keeps _ _ _ _ _ c.args.at _ _ c.in-Err.ensures.refused (refused_is_quiet _ c.code.result c.code.ensures.refused)
