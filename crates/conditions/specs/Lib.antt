pub mod Conditions
pub mod Table
