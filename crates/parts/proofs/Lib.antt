pub mod Cycling
pub mod Piecing
pub mod Renewing
