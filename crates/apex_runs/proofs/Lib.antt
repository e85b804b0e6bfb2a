pub mod Crossing
pub mod ObserverLemmas
