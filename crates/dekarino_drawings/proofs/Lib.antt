pub mod Common
pub mod ArrowLemmas
pub mod FollowingLemmas
