pub mod Common
pub mod JournalSteps
pub mod LeastRoom
pub mod RoomSteps
pub mod SampleSteps
