pub mod Common
pub mod ChannelSteps
pub mod Lookups
pub mod Results
pub mod OwnIdLemmas
pub mod EntrySteps
pub mod EvidenceSteps
pub mod PartitionSteps
pub mod PictureLaws
pub mod DepartureSteps
pub mod WaitingLaws
pub mod ReplyTests
pub mod JudgedLogs
mod QueueSteps
mod TallySteps
