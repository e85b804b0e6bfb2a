-- Time-outs of logged calls. The line of a call with a time-out is at the place where the call returned. So it got the
-- reply that a call without one would have got there, except that TIMED_OUT replaces NOT_AVAILABLE.
use Rattle.std.specs.Prelude.{Bool, true, false, ◌&&◌, ◌==◌, if◌then◌else◌}
use Rattle.apex_logs.specs.Prelude.{Reply, ReturnCode, NotAvailable, TimedOut}
use Rattle.apex_types.specs.declared.call.Call.{Call}
use Rattle.apex_types.specs.declared.call.Call.TheVariants.{SendQueuing, ReceiveQueuing}
use Rattle.apex_types.specs.declared.reply.Reply.TheVariants.{Code}
use Rattle.apex_logs.specs.declared.time_out.TimeOut.{TimeOut}
use Rattle.apex_logs.specs.declared.time_out.TimeOut.TheVariants as said
use Rattle.apex_logs.specs.declared.time_out.MaxWait.{MaxWait}
use Rattle.apex_logs.specs.declared.time_out.MaxWait.TheVariants.{Zero, Finite, Infinite}

-- the call takes a time-out
abbrev pub can_wait : Call → Bool
can_wait (SendQueuing id message) = true
can_wait (ReceiveQueuing id) = true
can_wait _ = false

-- how long a call may wait, by what its line says; whether all calls that say none have one is a parameter
abbrev pub max_wait_of : Bool → Call → TimeOut → MaxWait
max_wait_of all call said.Unsaid = if all && can_wait call then Finite else Zero
max_wait_of all call (said.Nanoseconds time) = if time == 0 then Zero else Finite
max_wait_of all call said.Infinite = Infinite

-- the return code that a call without a time-out would have got; one that waits for ever can't have returned without
-- being served, and TIMED_OUT is then a code that the reply table never has
abbrev pub polled_code : MaxWait → ReturnCode → ReturnCode
polled_code Finite TimedOut = NotAvailable
polled_code Finite NotAvailable = TimedOut
polled_code Infinite NotAvailable = TimedOut
polled_code wait code = code

-- the reply that a call without a time-out would have got
abbrev pub as_polled : MaxWait → Reply → Reply
as_polled wait (Code code) = Code (polled_code wait code)
as_polled wait reply = reply

-- the standard's reply to a call without a time-out, as the reply to one that may wait; none if it would still wait
abbrev pub waited_code : MaxWait → ReturnCode → ReturnCode
waited_code Finite NotAvailable = TimedOut
waited_code wait code = code

abbrev pub as_waited : MaxWait → Reply → Reply
as_waited wait (Code code) = Code (waited_code wait code)
as_waited wait reply = reply
