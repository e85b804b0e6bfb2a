-- The words of std and of the crates below that several files of this crate cite.
pub use Rattle.apex_module.specs.Configuration.{Configuration, port_of, PartitionData, port_at, ports_of_partition, IsConfiguration}
pub use Rattle.apex_module.specs.declared.port.Port.{Port}
pub use Rattle.apex_ports.specs.Channels.{waiting_on, accepted_on, received_on, cleared_on}
pub use Rattle.apex_ports.specs.Counts.{count_of}
pub use Rattle.apex_ports.specs.History.{History, entries_of}
pub use Rattle.apex_ports.specs.Interference.{IsClosed, entries_inside}
pub use Rattle.apex_orders.specs.Lists.{Has}
pub use Rattle.apex_orders.specs.Orders.{Scripts, IsWay, history_of, next_entries, script_of, calls_of, replies_of, IsBeginning, IsOrder, entries_for, continued}
pub use Rattle.apex_orders.specs.Outcomes.{IsUndecidedWith, AreRepliesWith, CanBeAnsweredWith, CanOccurWith, IsAnsweredByWith, IsGivenByWith, AreEndsWith, HasMorePointsWith}
pub use Rattle.apex_orders.specs.Points.{HasSameCounts, IsSamePoint}
pub use Rattle.apex_orders.specs.declared.asked.Asked.{Asked}
pub use Rattle.apex_orders.specs.declared.replies.PossibleReply.{PossibleReply}
pub use Rattle.apex_log_orders.specs.LogOrders.{Logs, log_in, IsAnswer, HasNoOrder, entries_at}
