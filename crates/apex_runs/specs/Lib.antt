pub mod RunPortsView
pub mod Observers
pub mod Run
