pub mod Selected
pub mod Windows
pub mod Facts
pub mod Lent
