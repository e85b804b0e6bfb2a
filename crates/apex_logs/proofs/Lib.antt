pub mod Common
pub mod EndLemmas
pub mod LineSourceLemmas
pub mod LogLemmas
pub mod ReadsBack
