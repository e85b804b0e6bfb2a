use Rattle.apex_board.proofs.records.Records.push.Goals as goal

pub returns-clause-room : goal.returns-clause-room
returns-clause-room g c n k room = c.push_taken.ensures.room n k (c.push_accepted.ensures.room n k room)
