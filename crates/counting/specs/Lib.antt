pub mod Count
pub mod Periodic
pub mod Gather
pub mod Runs
pub mod Elements
pub mod Trays
