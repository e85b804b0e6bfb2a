-- What one partition did in a history.
use Rattle.std.specs.Prelude.{ℕ, List, map}
use Rattle.apex_types.specs.declared.call.Call.{Call}
use Rattle.apex_types.specs.declared.moment.Moment.{Moment}
use Rattle.apex_types.specs.declared.reply.Reply.{Reply}
use Rattle.apex_ports.specs.History.{History, entries_of}

-- the calls of the partition, in order, each with its moment
abbrev pub calls_of : ℕ → History → List (Moment × Call)
calls_of partition history = map (λ entry. (entry.at, entry.call)) (entries_of partition history)

-- the replies that the partition got, in order
abbrev pub replies_of : ℕ → History → List Reply
replies_of partition history = map (λ entry. entry.reply) (entries_of partition history)
