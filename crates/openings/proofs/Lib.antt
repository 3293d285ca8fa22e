pub mod Orders
pub mod Verdicts
pub mod Faults
pub mod Readings
pub mod Opens
pub mod PairOpens
pub mod Tabled
