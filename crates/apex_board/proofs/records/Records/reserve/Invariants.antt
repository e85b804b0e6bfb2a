use Rattle.apex_board.proofs.Common.{◌≡◌, ℕ, ◌<◌, HasRoomAt, KeepsRoom}
use Rattle.apex_board.specs.Recorded.{AreRecords}
use Rattle.apex_board.proofs.records.Records.reserve.Given as goal

abbrev pub invariant-loop-c : goal.invariant-loop-c
invariant-loop-c g l = record {
  log : l.self.log ≡ l.initial.self.log;
  recorded : AreRecords l.config l.self;
  grows : KeepsRoom l.initial.self.journals.items l.self.journals.items;
  room : (c : ℕ) → c < l.c → HasRoomAt l.calls c l.self.journals.items;
}
