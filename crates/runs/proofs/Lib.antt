pub mod Sides
pub mod Passing
pub mod Fillings
pub mod Marked
pub mod Handing
pub mod Room
