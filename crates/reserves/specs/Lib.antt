pub mod Reserves
pub mod States
pub mod Holding
pub mod Reading
pub mod Covers
