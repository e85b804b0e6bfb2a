-- The words of std and of the crates below that several files of this crate cite.
pub use Rattle.std.specs.Result.{result_err}
pub use Rattle.std.specs.Str.Lines.{lines}
pub use Rattle.apex_module.specs.Configuration.{Configuration}
pub use Rattle.apex_ports.specs.declared.history.Request.{Request}
pub use Rattle.apex_texts.specs.Lines.{FaultyLine, is_ascii, before}
unfoldable pub use Rattle.apex_texts.specs.Lines.{item_of_line}
pub use Rattle.apex_texts.specs.Script.{script_of}
unfoldable pub use Rattle.apex_texts.specs.Script.{timed_call_at}
pub use Rattle.apex_texts.specs.Text.{is_blank, words_of}
pub use Rattle.apex_texts.specs.Trace.{trace_of}
unfoldable pub use Rattle.apex_texts.specs.Trace.{request_at}
pub use Rattle.apex_texts.specs.declared.expected.Expected.{Expected}
pub use Rattle.apex_texts.specs.declared.line_fault.LineFault.{LineFault}
pub use Rattle.apex_logs.specs.LogLine.{ends_calls, sides_of, is_bracket, before_note}
unfoldable pub use Rattle.apex_logs.specs.LogLine.{entry_of_line}
pub use Rattle.apex_logs.specs.declared.time_out.TimeOut.{TimeOut}
