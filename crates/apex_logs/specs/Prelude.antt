-- The words of std and of the crates below that several files of this crate cite.
pub use Rattle.std.specs.Prelude.{ℕ, List, Result}
pub use Rattle.std.specs.Str.Lines.{lines, strip_carriage_return}
pub use Rattle.apex_types.specs.declared.reply.Reply.{Reply}
pub use Rattle.apex_types.specs.declared.return_code.ReturnCode.{ReturnCode}
pub use Rattle.apex_types.specs.declared.return_code.ReturnCode.TheVariants.{NoError, NoAction, NotAvailable, InvalidParam, InvalidConfig, InvalidMode, TimedOut}
pub use Rattle.apex_module.specs.Configuration.{Configuration}
pub use Rattle.apex_ports.specs.declared.history.Entry.{Entry}
pub use Rattle.apex_ports.specs.declared.history.Request.{Request}
pub use Rattle.apex_texts.specs.Arguments.{◌>>=◌, or_fault, word_at, argument_at, message_in, exactly, moment_of, Gives}
unfoldable pub use Rattle.apex_texts.specs.Arguments.{call_at, call_with}
pub use Rattle.apex_texts.specs.Text.{is_line_feed, is_blank, words_of, number_up_to, is_digit, digits_after}
pub use Rattle.apex_texts.specs.declared.arguments.TheConstants.{NUMBER_LIMIT, MOMENT_LIMIT}
pub use Rattle.apex_texts.specs.declared.line_fault.LineFault.{LineFault}
