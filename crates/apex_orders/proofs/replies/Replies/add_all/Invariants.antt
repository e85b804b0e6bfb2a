use Rattle.apex_orders.proofs.Common.{◌≡◌, ◌⊎◌, ◌<◌, ℕ, Some, slice_get, PossibleReply, Has, Includes}
use Rattle.apex_orders.proofs.replies.Replies.add_all.Given as goal

abbrev pub invariant-loop-k : goal.invariant-loop-k
invariant-loop-k l = record {
  kept : Includes l.fn.self l.self;
  added : (n : ℕ) (one : PossibleReply) → n < l.k → slice_get l.other n ≡ Some one → Has l.self one;
  only : (one : PossibleReply) → Has l.self one → Has l.fn.self one ⊎ Has l.other one;
}
