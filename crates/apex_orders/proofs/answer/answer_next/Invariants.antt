use Rattle.apex_orders.proofs.Common.{◌≡◌, ◌+◌, ◌≤◌, ℕ, Some, slice_get, Asked, AreAnswersBy, IfSome, IsOpen, IsReadyAfter, order_at}
use Rattle.apex_orders.specs.Searching.{IsNextReply, asked_hash}
use Rattle.apex_orders.proofs.answer.answer_next.Given as goal

abbrev pub invariant-loop-count : goal.invariant-loop-count
invariant-loop-count l = record {
  ready : IsReadyAfter l.config l.scripts (order_at l.current.orders l.i) l.ports;
  known : IfSome l.known (IsNextReply l.clock l.config l.scripts (order_at l.current.orders l.i));
  answers : AreAnswersBy l.clock l.config l.scripts l.asked l.current.orders l.i l.answers.items;
  here : (k : ℕ) → l.count ≡ k + 1 → slice_get l.hashes k ≡ Some l.hash;
  looked : (q : ℕ) (one : Asked) → l.count ≤ q → slice_get l.asked q ≡ Some one → one.partition ≡ l.p → asked_hash one ≡ l.hash
      → IsOpen l.clock l.config l.scripts l.asked l.current.orders (l.i + 1) l.answers.items q;
  still : (q : ℕ) → IsOpen l.clock l.config l.scripts l.asked l.current.orders (l.i + 1) l.initial.answers.items q
      → IsOpen l.clock l.config l.scripts l.asked l.current.orders (l.i + 1) l.answers.items q;
}

abbrev pub decreases-loop-count : goal.decreases-loop-count
decreases-loop-count l = l.count
