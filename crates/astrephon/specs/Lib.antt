pub mod Says
pub mod Check
pub mod Maps
pub mod Shares
pub mod Carries
pub mod Moves
pub mod Texts
pub mod Sequences
