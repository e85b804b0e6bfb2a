pub mod Documents
pub mod Nearer
pub mod PlaceLines
