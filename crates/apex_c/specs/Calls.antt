-- Calls through a handle.
use Rattle.std.specs.Prelude.{ℕ, nat_lt, if◌then◌else◌, length, [], ◌∷◌, ◌++◌, Option, None, Some}
use Rattle.apex_types.specs.Reply.{code_of}
use Rattle.apex_types.specs.ReturnCode.{number_of}
use Rattle.apex_types.specs.declared.call.Call.{Call}
use Rattle.apex_types.specs.declared.moment.Moment.{Moment}
use Rattle.apex_types.specs.declared.reply.Reply.{Reply}
use Rattle.apex_types.specs.declared.return_code.ReturnCode.{ReturnCode}
use Rattle.apex_ports.specs.History.{entry_of}
use Rattle.apex_ports.specs.PortsView.{PortsView}
use Rattle.apex_ports.specs.ReplyTable.{reply_to}
use Rattle.apex_c.specs.Held.{PortsHeld}
use Rattle.apex_c.specs.declared.answer.TheConstants.{NOT_MADE, NOT_OPEN, NO_PARTITION}

abbrev pub code_number : Option ReturnCode → ℕ
code_number None = NOT_MADE
code_number (Some code) = number_of code

-- the standard's number of a reply's return code
abbrev pub reply_number : Reply → ℕ
reply_number reply = code_number (code_of reply)

-- the reply of the ports to a call
abbrev pub reply_of_ports : PortsView → ℕ → Moment → Call → Reply
reply_of_ports ports p at call = reply_to ports.config ports.history p at call

-- the ports with the call's entry at the end of their history
abbrev pub ports_with : PortsView → ℕ → Moment → Call → PortsView
ports_with ports p at call = record ports { history = ports.history ++ entry_of p at call (reply_of_ports ports p at call) ∷ [] }

-- the reply to a call of a partition; none if the handle isn't open, or the module lacks the partition
abbrev pub reply_in : PortsHeld → ℕ → Moment → Call → Option Reply
reply_in None p at call = None
reply_in (Some ports) p at call =
    if nat_lt p (length ports.config.partitions) then Some (reply_of_ports ports p at call) else None

-- what the call answers
abbrev pub answer_in : PortsHeld → ℕ → Moment → Call → ℕ
answer_in None p at call = NOT_OPEN
answer_in (Some ports) p at call =
    if nat_lt p (length ports.config.partitions) then reply_number (reply_of_ports ports p at call) else NO_PARTITION

-- the history gains just the call's entry; a call that isn't made changes nothing
abbrev pub ports_after : PortsHeld → ℕ → Moment → Call → PortsHeld
ports_after None p at call = None
ports_after (Some ports) p at call =
    if nat_lt p (length ports.config.partitions)
    then Some (ports_with ports p at call)
    else Some ports

-- the moment of a number of nanoseconds
abbrev pub moment_of : ℕ → Moment
moment_of nanoseconds = record { 0 = nanoseconds }
