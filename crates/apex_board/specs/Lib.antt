pub mod Prelude
pub mod Asked
pub mod BoardView
pub mod Journals
pub mod Recorded
pub mod Room
pub mod Samples
pub mod OnRequests
