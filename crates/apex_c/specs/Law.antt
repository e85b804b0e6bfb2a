-- A refused call may be asked about afterwards: it leaves what every row depends on.
use Rattle.std.specs.Prelude.{ℕ, Bool, true, false, ◌≡◌, [], ◌∷◌, ◌++◌}
use Rattle.apex_types.specs.declared.call.Call.{Call}
use Rattle.apex_types.specs.declared.moment.Moment.{Moment}
use Rattle.apex_module.specs.Configuration.{Configuration}
use Rattle.apex_ports.specs.History.{History, entry_of}
use Rattle.apex_ports.specs.ReplyTable.{reply_to, row_of}
use Rattle.apex_ports.specs.Seen.{seen}
use Rattle.apex_ports.specs.declared.rows.Row.{Row}
use Rattle.apex_ports.specs.declared.rows.Row.TheVariants.{Idle, Refused}

-- the row is that of a call that isn't made or is refused
abbrev pub is_refusal : Row → Bool
is_refusal Idle = true
is_refusal (Refused refusal) = true
is_refusal _ = false

-- the history with a call of a partition and its reply
abbrev pub history_after : Configuration → History → ℕ → Moment → Call → History
history_after config history p at call =
    history ++ entry_of p at call (reply_to config history p at call) ∷ []

-- after a call that isn't made or is refused, every partition sees what it saw before
abbrev pub RefusedLeavesSeen : Type 0
RefusedLeavesSeen =
    (config : Configuration) (history : History) (p : ℕ) (at : Moment) (call : Call)
    → is_refusal (row_of config (seen config history p) p at call) ≡ true
    → (q : ℕ) → seen config (history_after config history p at call) q ≡ seen config history q
