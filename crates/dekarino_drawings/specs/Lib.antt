pub mod Prelude
pub mod Arrows
pub mod Chart
pub mod Escaping
pub mod Following
