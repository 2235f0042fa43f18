pub mod Bounds
pub mod Backing
