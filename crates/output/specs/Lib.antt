pub mod Output
pub mod Writes
