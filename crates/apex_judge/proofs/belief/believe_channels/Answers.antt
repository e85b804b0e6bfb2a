use Rattle.apex_judge.proofs.belief.believe_channels.Goals as goal

pub returns-clause-noted : goal.returns-clause-noted
returns-clause-noted g c picture each = c.see_read.ensures.noted _ (c.in_ok-note_channels.ensures.noted picture each)
