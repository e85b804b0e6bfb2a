-- The words of std and of the crates below that several files of this crate cite.
pub use Rattle.apex_types.specs.declared.call.Call.{Call}
pub use Rattle.apex_types.specs.declared.call.Call.TheVariants.{ReceiveQueuing, ReadSampling, SendQueuing, ClearQueuing, WriteSampling}
pub use Rattle.apex_module.specs.Configuration.{Configuration, port_of}
pub use Rattle.apex_ports.specs.Channels.{message_accepted, taken_on, sample_written, message_received, clears, taken_by}
pub use Rattle.apex_ports.specs.History.{History, request_of, requests_of}
pub use Rattle.apex_ports.specs.Kept.{EachAt}
pub use Rattle.apex_ports.specs.Lawful.{Answers}
pub use Rattle.apex_ports.specs.declared.history.Entry.{Entry}
