pub mod Strides
pub mod Owning
pub mod Walks
pub mod Facts
