-- An entry as in a log without time-outs: the reply that its call would have got without one when it returned.
use Rattle.std.specs.Prelude.{Bool}
use Rattle.apex_logs.specs.Prelude.{Entry}
use Rattle.apex_logs.specs.declared.log.LoggedEntry.{LoggedEntry}
use Rattle.apex_logs.specs.declared.time_out.MaxWait.{MaxWait}
use Rattle.apex_logs.specs.TimeOut.{max_wait_of, as_polled}

-- how long the call of a logged entry may wait; whether all that say no time-out have one is a parameter
abbrev pub wait_of : Bool → LoggedEntry → MaxWait
wait_of all logged = max_wait_of all logged.entry.call logged.time_out

-- an entry whose call may wait, without its time-out
abbrev pub polled_entry : MaxWait → Entry → Entry
polled_entry wait entry = record { partition = entry.partition; at = entry.at; call = entry.call; reply = as_polled wait entry.reply }

-- a logged entry without its time-out
abbrev pub polled : Bool → LoggedEntry → Entry
polled all logged = polled_entry (wait_of all logged) logged.entry
