pub mod Tabled
pub mod Pieces
