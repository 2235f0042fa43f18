pub mod Payouts
pub mod Guards
pub mod Members
pub mod Asked
pub mod Bounding
pub mod Lowerings
