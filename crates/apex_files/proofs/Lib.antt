pub mod ArgumentLemmas
mod ReadingLemmas
mod TerminalLemmas
