pub mod Channels
pub mod History
pub mod OneChannel
pub mod Published
pub mod Shown
