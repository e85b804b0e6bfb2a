pub mod Configuration
pub mod Equality
pub mod EqualityLaws
pub mod Fault
pub mod Limits
