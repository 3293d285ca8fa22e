pub mod Listing
pub mod Listable
