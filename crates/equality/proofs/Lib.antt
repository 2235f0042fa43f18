pub mod Integers
pub mod Equality
pub mod Itself
pub mod Amount
pub mod Comparing
pub mod Examples
