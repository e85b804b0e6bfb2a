pub mod Common
pub mod CallLemmas
pub mod Counting
pub mod Lists
pub mod PackedLemmas
pub mod Ready
pub mod PublishSteps
