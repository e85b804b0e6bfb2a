pub mod Nearest
pub mod Paths
pub mod PlaceLines
pub mod Places
