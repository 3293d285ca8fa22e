pub mod Ends
pub mod Fields
pub mod Hexes
pub mod Slots
pub mod Unwritten
pub mod Replies
pub mod Kept
pub mod Figures
