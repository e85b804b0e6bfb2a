pub mod Prelude
pub mod FaultyLines
pub mod LinePlace
pub mod LogFaults
pub mod LogPlace
