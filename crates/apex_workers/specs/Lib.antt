pub mod Alone
pub mod Facts
pub mod Observed
