pub mod Adding
pub mod Following
pub mod Prefixes
pub mod Sampling
pub mod Observing
