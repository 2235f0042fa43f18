pub mod Zeros
pub mod Statements
pub mod Examples
