pub mod Marked
pub mod Room
pub mod Demand1
pub mod Demand2
pub mod Demand3
pub mod Listed
pub mod Stored
pub mod Streamed
