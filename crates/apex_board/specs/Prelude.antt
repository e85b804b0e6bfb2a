-- The words of std and of the crates below that several files of this crate cite.
pub use Rattle.std.specs.Vec.{vec_capacity, vec_len}
pub use Rattle.apex_types.specs.declared.call.Call.{Call}
pub use Rattle.apex_types.specs.declared.call.Call.TheVariants.{SendQueuing, ReceiveQueuing, ClearQueuing, WriteSampling}
pub use Rattle.apex_types.specs.declared.sample.Sample.{Sample}
pub use Rattle.apex_module.specs.Configuration.{Configuration, port_of}
pub use Rattle.apex_observers.specs.Channels.{Channels, AreObservers, sampling_of, KnowAll, books_of}
pub use Rattle.apex_ports.specs.Channels.{accepted_on, taken_on, message_sent, last_write_on, writes_on, messages_of, waiting_on, as_cleared, clears, message_accepted, message_received, is_clear, as_received}
pub use Rattle.apex_ports.specs.History.{History, entry_of, requests_of}
pub use Rattle.apex_ports.specs.Idle.{StaysIdle, IdleIsSilent}
pub use Rattle.apex_ports.specs.Kept.{EachAt}
pub use Rattle.apex_ports.specs.Lawful.{IsLawful, Answers}
pub use Rattle.apex_ports.specs.Modes.{is_code_no_error, mode_of}
pub use Rattle.apex_ports.specs.Ports.{is_queuing, is_created, is_queue}
pub use Rattle.apex_ports.specs.Refused.{SameChannels, is_send}
pub use Rattle.apex_ports.specs.ReplyTable.{reply_to, depth_of}
pub use Rattle.apex_ports.specs.Sound.{IsSound}
pub use Rattle.apex_ports.specs.Writes.{WritesNothing}
pub use Rattle.apex_threads.specs.OnChannels.{ArePublished}
