pub mod Forest
pub mod Decoded
pub mod Flat
pub mod Lent
pub mod Props
pub mod Owners
pub mod Rows
