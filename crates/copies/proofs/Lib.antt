pub mod Chunks
pub mod Pasted
