use Rattle.apex_orders.proofs.Common.{◌≡◌, ◌<◌, ℕ, false, length, entries_of, is_tried, IsQuietFrom, script_of}
use Rattle.apex_orders.proofs.choice.is_quiet_outside.Given as goal

abbrev pub invariant-loop-q : goal.invariant-loop-q
invariant-loop-q l =
    (q : ℕ) → q < l.q → is_tried l.tried q ≡ false → IsQuietFrom l.ports.config q (script_of l.scripts q) l.channel l.named (length (entries_of q l.ports.history))
