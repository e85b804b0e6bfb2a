pub mod OrderAnswer
pub mod OwnLogs
pub mod Unfinished
