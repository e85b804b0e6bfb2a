use Rattle.apex_board.proofs.Common.{◌≡◌, ◌++◌, ◌≤◌, length, drop, map, vec_len, vec_capacity, as_cleared}
use Rattle.apex_board.proofs.journal.Journal.clear.Given as goal

abbrev pub invariant-loop-index : goal.invariant-loop-index
invariant-loop-index g l = record {
  accepted : l.self.accepted ≡ l.fn.self.accepted;
  len : vec_len l.self.taken ≡ l.index;
  within : l.index ≤ vec_len l.fn.self.accepted;
  taken : l.self.taken.items ++ map as_cleared (drop l.index l.fn.self.accepted.items) ≡ l.fn.self.taken.items ++ map as_cleared (drop (length l.fn.self.taken.items) l.fn.self.accepted.items);
  capacity : vec_capacity l.self.taken ≡ vec_capacity l.fn.self.taken;
}
