use Rattle.apex_board.proofs.Common.{◌≡◌, drop, room_of, least_room}
use Rattle.apex_board.proofs.records.Records.room.Given as goal

abbrev pub invariant-loop-journal : goal.invariant-loop-journal
invariant-loop-journal g l = least_room (drop l.journal-index l.self.journals.items) l.room ≡ room_of l.self
