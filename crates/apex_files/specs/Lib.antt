pub mod Arguments
pub mod Files
pub mod Limits
pub mod Reading
pub mod Refusal
pub mod Scripts
pub mod Terminal
