pub mod LawLemmas
pub mod ReplyLemmas
