pub mod Law
pub mod Replies
pub mod Services
