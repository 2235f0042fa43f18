pub mod Matching
pub mod Standing
pub mod Prepared
pub mod Coded
