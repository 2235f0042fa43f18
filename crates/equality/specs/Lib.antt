pub mod Equality
pub mod Itself
pub mod Amount
