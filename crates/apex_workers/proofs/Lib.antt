pub mod Alone
pub mod Crossing
pub mod LogLemmas
