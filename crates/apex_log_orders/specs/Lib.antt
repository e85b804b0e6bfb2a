pub mod Prelude
pub mod LogOrders
pub mod Walking
pub mod Stuck
pub mod DeadEnds
pub mod ByChannel
