pub mod Mapped
pub mod Chosen
pub mod BytesOf
pub mod Sharing
