pub mod Members
pub mod Bounding
pub mod Lowerings
