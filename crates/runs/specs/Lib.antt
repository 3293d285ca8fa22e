pub mod Listing
pub mod Walking
pub mod Tracks
