pub mod Said
pub mod Refusals
pub mod Table
pub mod Offsets
pub mod Buffers
pub mod Openings
